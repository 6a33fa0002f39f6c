-- What submitting a message does.
use Rattle.std.specs.Prelude.{◌≡◌, ℕ, List, [], ◌++◌, length, drop, Ok, Err, Result}
use Rattle.margin.specs.Sheets.{Charge}
use Rattle.market.specs.declared.calls.Answer.{Answer}
use Rattle.market.specs.declared.calls.Call.{Call}
use Rattle.market.specs.declared.calls.Call.TheVariants.{Place, Cancel, CancelAll}
use Rattle.market.specs.declared.events.Event.{Event}
use Rattle.market.specs.declared.refusals.Refusal.{Refusal}
use Rattle.market.specs.Numbers.{refusal_number}
use Rattle.market.specs.Markets.{Market}
use Rattle.market.specs.Calls.{outcome}
use Rattle.wire.specs.declared.request.MessageRefusal.{MessageRefusal}
use Rattle.wire.specs.declared.request.Request.{Request}
use Rattle.wire.specs.declared.request.Request.TheVariants.{Place as AsksPlace, Cancel as AsksCancel, CancelAll as AsksCancelAll}
use Rattle.wire.specs.Messages.{reading, refusal_number as reader_number}
use Rattle.venue.specs.declared.submitting.Fault.{Fault}
use Rattle.venue.specs.declared.submitting.Fault.TheVariants.{Reader, Venue as ByVenue}

-- The number of the refusal, whichever layer refused.
abbrev pub fault_number : Fault → ℕ
fault_number (Reader refusal) = reader_number refusal
fault_number (ByVenue refusal) = refusal_number refusal

-- The call that a message asks for.
abbrev pub call_of : Request → Call
call_of (AsksPlace member instrument side term rate lots) =
    Place (record { member = member; instrument = instrument; side = side; term = term; rate = rate; lots = lots })
call_of (AsksCancel member number) = Cancel member number
call_of (AsksCancelAll member) = CancelAll member

-- The venue's refusal, named as the venue's.
abbrev pub by_venue : Result Answer Refusal → Result Answer Fault
by_venue (Ok answer) = Ok answer
by_venue (Err refusal) = Err (ByVenue refusal)

-- A message that is not read is refused by the reader and makes no call.
abbrev pub answer_of : Charge → ℕ → ℕ → Market → Result Request MessageRefusal → Result Answer Fault
answer_of charge reach places M (Err refusal) = Err (Reader refusal)
answer_of charge reach places M (Ok request) = by_venue (outcome charge reach places M (call_of request)).answer

abbrev pub market_after : Charge → ℕ → ℕ → Market → Result Request MessageRefusal → Market
market_after charge reach places M (Err refusal) = M
market_after charge reach places M (Ok request) = (outcome charge reach places M (call_of request)).market

abbrev pub events_of : Charge → ℕ → ℕ → Market → Result Request MessageRefusal → List Event
events_of charge reach places M (Err refusal) = []
events_of charge reach places M (Ok request) = (outcome charge reach places M (call_of request)).events

-- Of a message submitted to a venue with a list lent to it: the answer, the venue after it and the list after it.
pub record Submits (charge : Charge) (reach : ℕ) (message : List ℕ) (before after : Market) (answer : Result Answer Fault) (list list_after : List Event) : Type 0 where
  pub answered : answer ≡ answer_of charge reach (length list) before (reading message)
  pub became : after ≡ market_after charge reach (length list) before (reading message)
  pub told : list_after ≡ events_of charge reach (length list) before (reading message) ++ drop (length (events_of charge reach (length list) before (reading message))) list

-- What each call makes of a venue, tells and answers.
use Rattle.std.specs.Prelude.{ℕ, suc, ◌+◌, ◌-◌, true, List, [], ◌∷◌, length, Some, None, Ok, Err, Option, Result}
use Rattle.std.specs.Option.{unwrap_or}
use Rattle.terms.specs.declared.Order.{Order}
use Rattle.terms.specs.declared.Side.TheVariants.{Bid, Offer}
use Rattle.margin.specs.Sheets.{Charge, after_set_factor}
use Rattle.market.specs.declared.calls.Answer.{Answer}
use Rattle.market.specs.declared.calls.Answer.TheVariants.{Done, Placed as PlacedAs, Cancelled as CancelledCount, Standing as StandingIs, Quotes, Listing}
use Rattle.market.specs.declared.calls.Call.{Call}
use Rattle.market.specs.declared.calls.Call.TheVariants.{Admit, Define, Open, Deposit, Withdraw, Place, Cancel, CancelAll, Close, AskStanding, AskQuotes, AskListing}
use Rattle.market.specs.declared.calls.Phase.TheVariants.{Open as OpenPhase, Closed}
use Rattle.market.specs.declared.events.Event.{Event}
use Rattle.market.specs.declared.events.Reason.TheVariants.{Asked, Closing}
use Rattle.market.specs.declared.instruments.Benchmark.TheVariants.{Mibor}
use Rattle.market.specs.declared.instruments.TenorGroup.TheVariants.{UpToOneYear}
use Rattle.market.specs.declared.members.Benchmarks.TheVariants.{Mibor as OnlyMibor}
use Rattle.market.specs.declared.members.Limits.{Limits}
use Rattle.market.specs.declared.members.Mode.TheVariants.{Reduction}
use Rattle.market.specs.declared.orders.Quote.{Quote}
use Rattle.market.specs.declared.refusals.Refusal.{Refusal}
use Rattle.market.specs.Numbers.{benchmark_numbered, group_numbered, benchmarks_numbered}
use Rattle.market.specs.Markets.{Market, Told, quietly, with_phase, with_member, with_instrument, with_sheet, is_of}
use Rattle.market.specs.Cancels.{cancelling}
use Rattle.market.specs.Modes.{need, judged_member, with_deposit}
use Rattle.market.specs.Meeting.{placed}
use Rattle.market.specs.Grounds.{checked, grounds, is_order}
use Rattle.market.specs.TableRows.{Member, Instrument}

-- The answer of a call with what it told and the venue that it leaves.
pub record Outcome : Type 0 where
  pub answer : Result Answer Refusal
  pub events : List Event
  pub market : Market

-- A member begins with no deposit, in reduction mode. (The grounds let only numbers through that stand for something.)
abbrev pub admitted : ℕ → Limits → Member
admitted benchmarks limits =
    record { admitted = true; benchmarks = unwrap_or (benchmarks_numbered benchmarks) OnlyMibor; limits = limits; deposit = 0; mode = Reduction }

abbrev pub defined : ℕ → ℕ → Instrument
defined benchmark group =
    record { defined = true; benchmark = unwrap_or (benchmark_numbered benchmark) Mibor; group = unwrap_or (group_numbered group) UpToOneYear }

abbrev pub quote_of : List Order → Option Quote
quote_of [] = None
quote_of (first ∷ others) = Some (record { rate = first.rate; lots = first.lots })

-- A refusal tells nothing and changes nothing.
abbrev pub unless_refused : Market → Result (Unit {0}) Refusal → Outcome → Outcome
unless_refused M (Ok _) outcome = outcome
unless_refused M (Err refusal) outcome = record { answer = Err refusal; events = []; market = M }

module _ (charge : Charge) (reach : ℕ) where
  -- A member's deposit is changed, and the member judged: its row is changed, and no other.
  abbrev pub deposit_changed : Market → ℕ → ℕ → Market
  deposit_changed M m deposit =
      with_member M m (judged_member (need charge M m) (with_deposit (M.members m) deposit))

  -- What a call does that is not refused.
  abbrev pub effect : Market → Call → Told
  effect M (Admit member benchmarks limits) = quietly (with_member M member (admitted benchmarks limits))
  effect M (Define instrument benchmark group factor) =
      quietly (with_sheet (with_instrument M instrument (defined benchmark group)) (after_set_factor M.sheet instrument factor))
  effect M Open = quietly (with_phase M OpenPhase)
  effect M (Deposit member amount) = quietly (deposit_changed M member ((M.members member).deposit + amount))
  effect M (Withdraw member amount) = quietly (deposit_changed M member ((M.members member).deposit - amount))
  effect M (Place new) = placed charge reach M new
  effect M (Cancel member number) = cancelling (is_order member number) Asked M
  effect M (CancelAll member) = cancelling (is_of member) Asked M
  effect M Close = cancelling (λ _. true) Closing (with_phase M Closed)
  effect M (AskStanding member) = quietly M
  effect M (AskQuotes instrument) = quietly M
  effect M (AskListing instrument) = quietly M

  -- What it answers, having told so many events.
  abbrev pub answer_of : Market → Call → ℕ → Answer
  answer_of M (Admit member benchmarks limits) events = Done
  answer_of M (Define instrument benchmark group factor) events = Done
  answer_of M Open events = Done
  answer_of M (Deposit member amount) events = Done
  answer_of M (Withdraw member amount) events = Done
  answer_of M (Place new) events = PlacedAs (record { number = suc M.given; events = events })
  answer_of M (Cancel member number) events = CancelledCount events
  answer_of M (CancelAll member) events = CancelledCount events
  answer_of M Close events = CancelledCount events
  answer_of M (AskStanding member) events =
      StandingIs (record { need = need charge M member; deposit = (M.members member).deposit; mode = (M.members member).mode })
  answer_of M (AskQuotes instrument) events = Quotes (quote_of (M.rows Bid instrument)) (quote_of (M.rows Offer instrument))
  answer_of M (AskListing instrument) events =
      Listing (record { bids = length (M.rows Bid instrument); offers = length (M.rows Offer instrument) })

  abbrev pub accepted : Market → Call → Outcome
  accepted M call =
      record {
        answer = Ok (answer_of M call (length (effect M call).events));
        events = (effect M call).events;
        market = (effect M call).market;
      }

  -- One call, with a list of so many places lent for its events or its listing.
  abbrev pub outcome : ℕ → Market → Call → Outcome
  outcome places M call = unless_refused M (checked (grounds charge reach places M call)) (accepted M call)

  -- The same for proofs over runs, which do not look inside.
  unfoldable pub step : ℕ → Market → Call → Outcome
  step places M call = outcome places M call

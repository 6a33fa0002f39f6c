-- A run: calls made one after another, and what became of each.
use Rattle.std.specs.Prelude.{ℕ, List, [], ◌∷◌, Result}
use Rattle.margin.specs.Sheets.{Charge}
use Rattle.market.specs.declared.calls.Answer.{Answer}
use Rattle.market.specs.declared.calls.Call.{Call}
use Rattle.market.specs.declared.events.Event.{Event}
use Rattle.market.specs.declared.refusals.Refusal.{Refusal}
use Rattle.market.specs.Markets.{Market}
use Rattle.market.specs.Calls.{step}

-- A call as it is made: with a list of so many places lent for its events or its listing. Calls that take no list pass over them.
pub record Made : Type 0 where
  pub call : Call
  pub places : ℕ

-- A call with its answer and its events: all that an onlooker sees of it.
pub record Deed : Type 0 where
  pub call : Call
  pub answer : Result Answer Refusal
  pub events : List Event

module _ (charge : Charge) (reach : ℕ) where
  abbrev pub deed_of : Market → Made → Deed
  deed_of M made =
      record {
        call = made.call;
        answer = (step charge reach made.places M made.call).answer;
        events = (step charge reach made.places M made.call).events;
      }

  abbrev pub market_after : Market → Made → Market
  market_after M made = (step charge reach made.places M made.call).market

  abbrev pub deeds : Market → List Made → List Deed
  deeds M [] = []
  deeds M (first ∷ others) = deed_of M first ∷ deeds (market_after M first) others

  abbrev pub market_at_end : Market → List Made → Market
  market_at_end M [] = M
  market_at_end M (first ∷ others) = market_at_end (market_after M first) others

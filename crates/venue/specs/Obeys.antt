-- What every call of a venue promises: what it does is what the rules say.
use Rattle.std.specs.Prelude.{◌≡◌, ℕ, Bool, not, ◌||◌, List, ◌++◌, length, drop, Ok, Err, Result, MatchResult}
use Rattle.margin.specs.Sheets.{Charge}
use Rattle.market.specs.declared.calls.Answer.{Answer}
use Rattle.market.specs.declared.calls.Call.{Call}
use Rattle.market.specs.declared.calls.Phase.{Phase}
use Rattle.market.specs.declared.calls.Phase.TheVariants.{SetUp, Open as OpenPhase, Closed}
use Rattle.market.specs.declared.events.Event.{Event}
use Rattle.market.specs.declared.refusals.Refusal.{Refusal}
use Rattle.market.specs.Markets.{Market}
use Rattle.market.specs.Grounds.{Ground, checked, is_set_up, is_open}
use Rattle.market.specs.Calls.{outcome}

-- Of a call on a venue with a list lent to it: its answer, the venue after it and the list after it.
-- The events stand from the list's first place on, and later places are as they were.
pub record Obeys (charge : Charge) (reach : ℕ) (call : Call) (before after : Market) (answer : Result Answer Refusal) (list list_after : List Event) : Type 0 where
  pub answered : answer ≡ (outcome charge reach (length list) before call).answer
  pub became : after ≡ (outcome charge reach (length list) before call).market
  pub told : list_after ≡ (outcome charge reach (length list) before call).events ++ drop (length (outcome charge reach (length list) before call).events) list

-- An answer of one call's own kind, among the answers of all calls.
abbrev pub as_answer : {A : Type 0} → (A → Answer) → Result A Refusal → Result Answer Refusal
as_answer kind (Ok value) = Ok (kind value)
as_answer kind (Err refusal) = Err refusal

-- The grounds were tested: the first one met is the refusal, and where none is met the call goes on with this value.
abbrev pub Passes : {A : Type 0} → List Ground → A → Result A Refusal → Type 0
Passes grounds value tested =
    MatchResult tested (λ passed. (passed ≡ value) × (Ok tt ≡ checked grounds)) (λ refusal. Err refusal ≡ checked grounds)

-- The test of one phase, whichever it is.
abbrev pub is_phase : Phase → Phase → Bool
is_phase SetUp phase = is_set_up phase
is_phase OpenPhase phase = is_open phase
is_phase Closed phase = not (is_set_up phase || is_open phase)

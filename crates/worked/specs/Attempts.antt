-- Calls that meet several grounds at once.
use Rattle.std.specs.Prelude.{ℕ, cond, List, map, filter, Result, nat_le}
use Rattle.market.specs.declared.calls.Answer.{Answer}
use Rattle.market.specs.declared.calls.Call.{Call}
use Rattle.market.specs.declared.refusals.Refusal.{Refusal}
use Rattle.market.specs.Markets.{Market}
use Rattle.market.specs.Grounds.{grounds}
use Rattle.market.specs.Calls.{step}
use Rattle.worked.specs.Venues.{standard, reach}

-- A call made on a venue, with a list of so many places.
pub record Attempt : Type 0 where
  pub places : ℕ
  pub market : Market
  pub call : Call

abbrev pub answer_to : Attempt → Result Answer Refusal
answer_to attempt = (step standard reach attempt.places attempt.market attempt.call).answer

-- The refusals whose grounds it meets.
abbrev pub met_by : Attempt → List Refusal
met_by attempt =
    map (λ each. each.refusal)
    (filter (λ each. each.is_met) (grounds standard reach attempt.places attempt.market attempt.call))

-- For an attempt that meets the grounds from the n-th on: a value with which the k-th is met, and one with which it is not.
abbrev pub if_met : {A : Type 0} → ℕ → ℕ → A → A → A
if_met n k met unmet = cond (nat_le n k) met unmet

-- The highest entry of a table.
use Rattle.std.proofs.Common.{◌≡◌, ℕ, zero, suc, ◌<◌, ◌≤◌, max, sym, subst, ⊎_elim, arith}
use Rattle.std.proofs.lemmas.Bool.{cases_eq}
use Rattle.runs.specs.Promises.{highest_below}

pub at_most_highest : (n : ℕ) (table : ℕ → ℕ) (i : ℕ) → i < n → table i ≤ highest_below n table
unfolding highest_below
at_most_highest zero table i l = absurd (omega arith)
at_most_highest (suc n) table i l = ⊎_elim last (earlier (at_most_highest n table i)) (cases_eq i n)
  where
    last : i ≡ n → table i ≤ max (highest_below n table) (table n)
    last e = subst (λ z. table z ≤ max (highest_below n table) (table n)) (sym e) (omega arith)

    earlier : (i < n → table i ≤ highest_below n table) → (i ≡ n → ⊥) → table i ≤ max (highest_below n table) (table n)
    earlier before ne = omega (arith, before (omega arith))

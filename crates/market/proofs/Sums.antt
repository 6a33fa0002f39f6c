-- Laws of sums over a table, and of equal places.
use Rattle.std.proofs.Common.{◌≡◌, ℕ, zero, suc, ◌+◌, ◌<◌, Bool, true, false, cond, eqb, sym, refl, ap, ◌∙◌, arith}
use Rattle.std.proofs.lemmas.Bool.{cond-true, cond-false, eq-eqb, ne_eqb, eqb-true, eqb-false}
use Rattle.terms.specs.Tables.{put, sum_below}
use Rattle.terms.proofs.Tables.{put_cases, sum_put}

pub sum_same : (n : ℕ) (f g : ℕ → ℕ) → ((i : ℕ) → f i ≡ g i) → sum_below n f ≡ sum_below n g
unfolding sum_below
sum_same zero f g same = refl
sum_same (suc n) f g same = omega (arith, sum_same n f g same, same n)

pub sum_add : (n : ℕ) (f g : ℕ → ℕ) → sum_below n (λ i. f i + g i) ≡ sum_below n f + sum_below n g
unfolding sum_below
sum_add zero f g = refl
sum_add (suc n) f g = omega (arith, sum_add n f g)

-- A table that is another with one place changed.
pub sum_changed : (n i : ℕ) (f g : ℕ → ℕ) → i < n → ((j : ℕ) → (i ≡ j → ⊥) → g j ≡ f j) → sum_below n g + f i ≡ sum_below n f + g i
sum_changed n i f g l same =
    let here = sum_put n f i (g i) l in
    let equal = sum_same n g (put f i (g i)) (λ j. put_cases f i (g i) j (λ z. g j ≡ z) (λ e. ap g (sym e)) (same j)) in
    omega arith

-- A table with q more at one place.
pub sum_more_at : (n i q : ℕ) (f g : ℕ → ℕ) → i < n → ((j : ℕ) → g j ≡ f j + cond (eqb i j) q 0) → sum_below n g ≡ sum_below n f + q
sum_more_at n i q f g l more =
    let there : (j : ℕ) → (i ≡ j → ⊥) → g j ≡ f j = λ j ne. let none = cond-false (eqb i j) q 0 (ne_eqb i j ne) in omega (arith, more j) in
    let here = cond-true (eqb i i) q 0 (eq-eqb i i refl) in
    omega (arith, sum_changed n i f g l there, more i)

pub eqb_swap : (a b : ℕ) → eqb a b ≡ eqb b a
eqb_swap a b = go (eqb a b) refl
  where
    go : (x : Bool) → eqb a b ≡ x → eqb a b ≡ eqb b a
    go true e = e ∙ sym (eq-eqb b a (sym (eqb-true a b e)))
    go false e = e ∙ sym (ne_eqb b a (λ d. eqb-false a b e (sym d)))

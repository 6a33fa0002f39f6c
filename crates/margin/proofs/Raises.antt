-- Totals with some lots more, at the place that is raised and at every other.
use Rattle.std.proofs.Common.{◌≡◌, ℕ, ◌+◌, ◌≤◌, cond, sym, refl, ap, ◌∙◌, subst, ⊎_elim, arith}
use Rattle.std.proofs.lemmas.Bool.{cases_eq}
use Rattle.terms.specs.declared.Side.{Side}
use Rattle.terms.specs.declared.Side.TheVariants.{Bid, Offer}
use Rattle.terms.specs.Sides.{same_side}
use Rattle.terms.proofs.Tables.{put_here, put_there}
use Rattle.margin.specs.Sheets.{Totals, raised}
use Rattle.margin.specs.Laws.{Within}

pub raised_here : (t : Totals) (s : Side) (i q : ℕ) (u : Side) → raised t s i q u i ≡ t u i + cond (same_side s u) q 0
raised_here t Bid i q Bid = put_here (t Bid) i (t Bid i + q)
raised_here t Bid i q Offer = omega arith
raised_here t Offer i q Bid = omega arith
raised_here t Offer i q Offer = put_here (t Offer) i (t Offer i + q)

pub raised_there : (t : Totals) (s : Side) (i q : ℕ) (u : Side) (j : ℕ) → (i ≡ j → ⊥) → raised t s i q u j ≡ t u j
raised_there t Bid i q Bid j ne = put_there (t Bid) i (t Bid i + q) j ne
raised_there t Bid i q Offer j ne = refl
raised_there t Offer i q Bid j ne = refl
raised_there t Offer i q Offer j ne = put_there (t Offer) i (t Offer i + q) j ne

-- Totals that agree at a place agree there once both are raised.
pub raised_alike : (t v : Totals) (s : Side) (i j q : ℕ) → ((u : Side) → t u i ≡ v u j) → (u : Side) → raised t s i q u i ≡ raised v s j q u j
raised_alike t v s i j q same u = raised_here t s i q u ∙ ap (λ z. z + cond (same_side s u) q 0) (same u) ∙ sym (raised_here v s j q u)

pub raised_within : (reach : ℕ) (t : Totals) (s : Side) (i q : ℕ) → Within reach t → t s i + q ≤ reach → Within reach (raised t s i q)
raised_within reach t s i q within l u j = ⊎_elim here there (cases_eq i j)
  where
    own : (s u : Side) → t s i + q ≤ reach → t u i + cond (same_side s u) q 0 ≤ reach
    own Bid Bid h = h
    own Bid Offer h = omega (arith, within Offer i)
    own Offer Bid h = omega (arith, within Bid i)
    own Offer Offer h = h

    here : i ≡ j → raised t s i q u j ≤ reach
    here e = subst (λ k. raised t s i q u k ≤ reach) e (omega (arith, raised_here t s i q u, own s u l))

    there : (i ≡ j → ⊥) → raised t s i q u j ≤ reach
    there ne = omega (arith, raised_there t s i q u j ne, within u j)

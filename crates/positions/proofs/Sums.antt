-- A charge that sums an amount over the instruments: its laws follow from the amount's.
use Rattle.std.proofs.Common.{◌≡◌, ℕ, ◌+◌, ◌*◌, ◌^◌, ◌<◌, ◌≤◌, sym, ap, ◌∙◌, subst, ⊎_elim, mul-le-mul, arith}
use mathlib.Core.Path.{fun_ext}
use Rattle.std.proofs.lemmas.Bool.{cases_lt}
use Rattle.terms.specs.declared.Side.{Side}
use Rattle.terms.specs.declared.Side.TheVariants.{Bid, Offer}
use Rattle.terms.specs.Tables.{put, sum_below}
use Rattle.terms.proofs.Tables.{put_cases, put_here, sum_put, sum_put_past, sum_zero}
use Rattle.margin.specs.Sheets.{Totals, raised, no_lots}
use Rattle.margin.specs.Laws.{NoLotsNoCharge, RiseBounded}
use Rattle.margin.proofs.Raises.{raised_there}
use Rattle.positions.specs.Charges.{Amount, amount_at, summed, AmountRiseBounded}

abbrev pub most : ℕ
most = 4 * (100000 * 2 ^ 32)

module _ (amount : Amount) where
  -- Raised totals change one instrument's amount and no other.
  raised_amounts : (f : ℕ → ℕ) (t : Totals) (s : Side) (i q : ℕ) → amount_at amount f (raised t s i q) ≡ put (amount_at amount f t) i (amount_at amount f (raised t s i q) i)
  raised_amounts f t s i q = fun_ext (λ j. sym (put_cases (amount_at amount f t) i (amount_at amount f (raised t s i q) i) j (λ z. z ≡ amount_at amount f (raised t s i q) j) (here j) (there j)))
    where
      here : (j : ℕ) → i ≡ j → amount_at amount f (raised t s i q) i ≡ amount_at amount f (raised t s i q) j
      here j e = ap (amount_at amount f (raised t s i q)) e

      there : (j : ℕ) → (i ≡ j → ⊥) → amount_at amount f t j ≡ amount_at amount f (raised t s i q) j
      there j ne =
          let bought = raised_there t s i q Bid j ne in
          let sold = raised_there t s i q Offer j ne in
          cc

  pub summed_raised : (f : ℕ → ℕ) (t : Totals) (s : Side) (i q : ℕ) → i < 16 → summed amount f (raised t s i q) + amount_at amount f t i ≡ summed amount f t + amount_at amount f (raised t s i q) i
  summed_raised f t s i q l =
      let new = amount_at amount f (raised t s i q) i in
      let same = ap (sum_below 16) (raised_amounts f t s i q) in
      omega (arith, sum_put 16 (amount_at amount f t) i new l)

  pub summed_raised_past : (f : ℕ → ℕ) (t : Totals) (s : Side) (i q : ℕ) → 16 ≤ i → summed amount f (raised t s i q) ≡ summed amount f t
  summed_raised_past f t s i q l = ap (sum_below 16) (raised_amounts f t s i q) ∙ sum_put_past 16 (amount_at amount f t) i (amount_at amount f (raised t s i q) i) l

module _ (amount : Amount) (none : (factor : ℕ) → amount factor 0 0 ≡ 0) where
  pub summed_none : NoLotsNoCharge (summed amount)
  summed_none f = sum_zero 16 (amount_at amount f no_lots) (λ i. none (f i))

module _ (amount : Amount) (none : (factor : ℕ) → amount factor 0 0 ≡ 0) (rise : AmountRiseBounded amount) where
  pub amount_raised : (f : ℕ → ℕ) (t : Totals) (s : Side) (i q : ℕ) → amount_at amount f (raised t s i q) i ≤ amount_at amount f t i + 2 * (f i * q)
  amount_raised f t Bid i q = subst (λ z. amount (f i) z (t Offer i) ≤ amount_at amount f t i + 2 * (f i * q)) (sym (put_here (t Bid) i (t Bid i + q))) (rise (f i) (t Bid i) (t Offer i) q).0
  amount_raised f t Offer i q = subst (λ z. amount (f i) (t Bid i) z ≤ amount_at amount f t i + 2 * (f i * q)) (sym (put_here (t Offer) i (t Offer i + q))) (rise (f i) (t Bid i) (t Offer i) q).1

  pub summed_rise : (reach : ℕ) → RiseBounded (summed amount) reach
  summed_rise reach f t s i q within fits = ⊎_elim inside past (cases_lt i 16)
    where
      inside : i < 16 → summed amount f (raised t s i q) ≤ summed amount f t + 2 * (f i * q)
      inside l = omega (arith, summed_raised amount f t s i q l, amount_raised f t s i q)

      past : 16 ≤ i → summed amount f (raised t s i q) ≤ summed amount f t + 2 * (f i * q)
      past l = omega (arith, summed_raised_past amount f t s i q l)

  -- Of lots that fit 32 bits no instrument adds more than this, and so the sum over the instruments fits 64.
  pub amount_bounded : (f b s : ℕ) → f ≤ 100000 → b < 2 ^ 32 → s < 2 ^ 32 → amount f b s ≤ most
  amount_bounded f b s lf lb ls =
      let start = none f in
      let bought = (rise f 0 0 b).0 in
      let sold = (rise f b 0 s).1 in
      let same_b : amount f (0 + b) 0 ≡ amount f b 0 = ap (λ z. amount f z 0) (omega arith) in
      let same_s : amount f b (0 + s) ≡ amount f b s = ap (λ z. amount f b z) (omega arith) in
      let few_b : b ≤ 2 ^ 32 = omega arith in
      let few_s : s ≤ 2 ^ 32 = omega arith in
      let worth_b : f * b ≤ 100000 * 2 ^ 32 = mul-le-mul lf few_b in
      let worth_s : f * s ≤ 100000 * 2 ^ 32 = mul-le-mul lf few_s in
      omega arith

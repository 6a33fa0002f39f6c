-- The two laws bound every charge: totals are nothing, raised once for each side of each instrument.
use Rattle.std.proofs.Common.{◌≡◌, ℕ, zero, suc, ◌+◌, ◌*◌, ◌≤◌, cond, ltb, sym, refl, ap, ◌∙◌, mul-le-mul, mul-suc, arith}
use mathlib.Core.Path.{fun_ext}
use Rattle.std.proofs.lemmas.Bool.{lt-ltb, le-ltb, cond-true, cond-false, cond_both, ltb-false}
use Rattle.std.proofs.lemmas.Bool.Decides.{nat_tests}
use Rattle.terms.specs.declared.Side.{Side}
use Rattle.terms.specs.declared.Side.TheVariants.{Bid, Offer}
use Rattle.terms.specs.Tables.{put}
use Rattle.terms.proofs.Tables.{put_cases}
use Rattle.margin.specs.Sheets.{Totals, Sheet, Charge, raised, need_of}
use Rattle.margin.specs.Laws.{Within, Lawful, ReachInRange, NoLotsNoCharge, RiseBounded, highest_need, NeedsFit}
use Rattle.margin.proofs.Raises.{raised_within}

-- The totals of the first n instruments alone.
abbrev first : ℕ → Totals → Totals
first n t s i = cond (ltb i n) (t s i) 0

first_more_side : (g : ℕ → ℕ) (n : ℕ) → (λ i. cond (ltb i (suc n)) (g i) 0) ≡ put (λ i. cond (ltb i n) (g i) 0) n (cond (ltb n n) (g n) 0 + g n)
first_more_side g n = fun_ext (λ i. sym (put_cases (λ k. cond (ltb k n) (g k) 0) n (cond (ltb n n) (g n) 0 + g n) i (λ z. z ≡ cond (ltb i (suc n)) (g i) 0) (here i) (there i)))
  where
    here : (i : ℕ) → n ≡ i → cond (ltb n n) (g n) 0 + g n ≡ cond (ltb i (suc n)) (g i) 0
    here i e =
        let none = cond-false (ltb n n) (g n) 0 (le-ltb n n (omega arith)) in
        let all = cond-true (ltb i (suc n)) (g i) 0 (lt-ltb i (suc n) (omega arith)) in
        let same = ap g e in
        omega arith

    there : (i : ℕ) → (n ≡ i → ⊥) → cond (ltb i n) (g i) 0 ≡ cond (ltb i (suc n)) (g i) 0
    there i ne = grind (arith, nat_tests)

first_more : (n : ℕ) (t : Totals) → first (suc n) t ≡ raised (raised (first n t) Bid n (t Bid n)) Offer n (t Offer n)
first_more n t = fun_ext side
  where
    side : (s : Side) → first (suc n) t s ≡ raised (raised (first n t) Bid n (t Bid n)) Offer n (t Offer n) s
    side Bid = first_more_side (t Bid) n
    side Offer = first_more_side (t Offer) n

first_within : (reach n : ℕ) (t : Totals) → Within reach t → Within reach (first n t)
first_within reach n t within s i = cond_both (ltb i n) (t s i) 0 (λ z. z ≤ reach) (λ _. within s i) (λ _. omega arith)

first_all : (n : ℕ) (t : Totals) → ((s : Side) (i : ℕ) → n ≤ i → t s i ≡ 0) → first n t ≡ t
first_all n t past = fun_ext (λ s. fun_ext (λ i. cond_both (ltb i n) (t s i) 0 (λ z. z ≡ t s i) (λ _. refl) (λ e. sym (past s i (omega (arith, ltb-false i n e))))))

module _ (charge : Charge) (reach : ℕ) (range : ReachInRange reach) (none : NoLotsNoCharge charge) (rise : RiseBounded charge reach) where
  first_bounded : (f : ℕ → ℕ) (t : Totals) → ((i : ℕ) → f i ≤ 100000) → Within reach t → (n : ℕ) → charge f (first n t) ≤ 2 * (100000 * (100000 + 100000)) * n
  first_bounded f t factors within zero =
      let start : charge f (first 0 t) ≡ 0 = ap (charge f) (fun_ext (λ s. fun_ext (λ i. cond-false (ltb i 0) (t s i) 0 (le-ltb i 0 (omega arith))))) ∙ none f in
      omega arith
  first_bounded f t factors within (suc n) =
      let F = first n t in
      let B = raised F Bid n (t Bid n) in
      let before = first_bounded f t factors within n in
      let in_F = first_within reach n t within in
      let nothing_yet : (s : Side) → F s n ≡ 0 = λ s. cond-false (ltb n n) (t s n) 0 (le-ltb n n (omega arith)) in
      let fits_bid : F Bid n + t Bid n ≤ reach = omega (arith, nothing_yet Bid, within Bid n) in
      let fits_offer : B Offer n + t Offer n ≤ reach = omega (arith, nothing_yet Offer, within Offer n) in
      let bought = rise f F Bid n (t Bid n) in_F fits_bid in
      let sold = rise f B Offer n (t Offer n) (raised_within reach F Bid n (t Bid n) in_F fits_bid) fits_offer in
      let few : (s : Side) → t s n ≤ 100000 = λ s. omega (arith, within s n) in
      let worth_bought : f n * t Bid n ≤ 100000 * 100000 = mul-le-mul (factors n) (few Bid) in
      let worth_sold : f n * t Offer n ≤ 100000 * 100000 = mul-le-mul (factors n) (few Offer) in
      let same = ap (charge f) (first_more n t) in
      omega (arith, mul-suc (2 * (100000 * (100000 + 100000))) n)

  pub needs_fit : (k : Sheet) → Lawful reach k → NeedsFit charge k
  needs_fit k lawful = record { bounded = bound; in_64_bits = λ m. omega (arith, bound m) }
    where
      bound : (m : ℕ) → need_of charge k m ≤ highest_need
      bound m =
          let part = first_bounded k.factor (k.held m) lawful.factor_in_range (lawful.total_in_reach m) 16 in
          let all = first_all 16 (k.held m) (λ s i l. lawful.no_factor_no_lots m s i (lawful.no_factor_past i l)) in
          let whole = ap (charge k.factor) all in
          cond_both (ltb m 32) (charge k.factor (k.held m)) 0 (λ z. z ≤ highest_need) (λ _. omega arith) (λ _. omega arith)

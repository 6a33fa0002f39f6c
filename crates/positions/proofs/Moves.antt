-- A need, with what one instrument adds after a record in place of what it adds before.
use Rattle.std.proofs.Common.{◌≡◌, ℕ, ◌+◌, ◌*◌, ◌^◌, ◌<◌, ◌≤◌, true, not, ◌&&◌, eqb, ltb, leb, ap, ◌∙◌, ⊎_elim, mul-le-mul, arith}
use Rattle.std.proofs.lemmas.Bool.{cond-true, cases_lt, and_parts, eqb-false, not-true}
use Rattle.terms.specs.declared.Side.{Side}
use Rattle.terms.specs.declared.Side.TheVariants.{Bid, Offer}
use Rattle.terms.proofs.Tables.{put_here, place_at_most_sum, sum_at_most}
use Rattle.margin.specs.Sheets.{Sheet, raised, recorded, can_record, need_of}
use Rattle.margin.specs.Laws.{Lawful}
use Rattle.positions.specs.declared.lots.AmountChange.{AmountChange}
use Rattle.positions.specs.Charges.{Amount, amount_at, summed, Moves, AmountRiseBounded}
use Rattle.positions.proofs.Sums.{most, summed_raised, amount_bounded, amount_raised}

module _ (amount : Amount) (none : (factor : ℕ) → amount factor 0 0 ≡ 0) (rise : AmountRiseBounded amount) (reach : ℕ) (narrow : reach < 2 ^ 32) (sheet : Sheet) (lawful : Lawful reach sheet) where
  pub amount_at_bounded : (m i : ℕ) → amount_at amount sheet.factor (sheet.held m) i ≤ most
  amount_at_bounded m i =
      amount_bounded amount none rise (sheet.factor i) (sheet.held m Bid i) (sheet.held m Offer i)
      (lawful.factor_in_range i) (omega (arith, lawful.total_in_reach m Bid i)) (omega (arith, lawful.total_in_reach m Offer i))

  pub charge_bounded : (m : ℕ) → summed amount sheet.factor (sheet.held m) ≤ most * 16
  charge_bounded m = sum_at_most 16 (amount_at amount sheet.factor (sheet.held m)) most (amount_at_bounded m)

  instrument_there : (m i : ℕ) (s : Side) (q : ℕ) → can_record reach sheet m i s q ≡ true → i < 16
  instrument_there m i s q can = ⊎_elim (λ l. l) past (cases_lt i 16)
    where
      factor : sheet.factor i ≡ 0 → ⊥
      factor = eqb-false (sheet.factor i) 0 (not-true (eqb (sheet.factor i) 0) (and_parts (not (eqb (sheet.factor i) 0)) (leb 1 q && leb (sheet.held m s i + q) reach) (and_parts (ltb m 32) (not (eqb (sheet.factor i) 0) && (leb 1 q && leb (sheet.held m s i + q) reach)) can).1).0)

      past : 16 ≤ i → i < 16
      past l = absurd (factor (lawful.no_factor_past i l))

  pub need_moves : (m i : ℕ) (s : Side) (q : ℕ) (change : AmountChange) → q < 2 ^ 32 → can_record reach sheet m i s q ≡ true
      → change.before ≡ amount_at amount sheet.factor (sheet.held m) i
      → change.after ≡ amount_at amount sheet.factor (raised (sheet.held m) s i q) i
      → Moves (need_of (summed amount) sheet m) change (need_of (summed amount) (recorded sheet m i s q) m)
  need_moves m i s q change few can before-is after_is =
      let there = instrument_there m i s q can in
      let member : ltb m 32 ≡ true = (and_parts (ltb m 32) (not (eqb (sheet.factor i) 0) && (leb 1 q && leb (sheet.held m s i + q) reach)) can).0 in
      let old : need_of (summed amount) sheet m ≡ summed amount sheet.factor (sheet.held m) = cond-true _ _ _ member in
      let new : need_of (summed amount) (recorded sheet m i s q) m ≡ summed amount sheet.factor (raised (sheet.held m) s i q) =
      cond-true _ _ _ member ∙ ap (summed amount sheet.factor) (put_here sheet.held m (raised (sheet.held m) s i q)) in
      let part = place_at_most_sum 16 (amount_at amount sheet.factor (sheet.held m)) i there in
      let bound = charge_bounded m in
      let few_lots : q ≤ 2 ^ 32 = omega arith in
      let worth : sheet.factor i * q ≤ 100000 * 2 ^ 32 = mul-le-mul (lawful.factor_in_range i) few_lots in
      let grows = amount_raised amount none rise sheet.factor (sheet.held m) s i q in
      let moved = summed_raised amount sheet.factor (sheet.held m) s i q there in
      record { enough = omega arith; sum = omega arith; fits = omega arith }

-- What the running keeper keeps stays each member's need.
use Rattle.std.proofs.Common.{◌≡◌, ℕ, zero, suc, ◌<◌, true, cond, ◌&&◌, eqb, ltb, leb, List, length, get_or, set, replicate, Ok, Result, sym, refl, ap, ◌∙◌, subst, ap₂, ⊎_elim, arith}
use mathlib.Core.Path.{fun_ext}
use Rattle.std.proofs.lemmas.List.{get_or-set_same, get_or-set_other}
use Rattle.std.proofs.lemmas.Bool.{cond_both, cond-true, and_parts, cases_eq, eqb-true, ltb-true}
use Rattle.terms.specs.declared.Side.{Side}
use Rattle.terms.specs.declared.Side.TheVariants.{Bid, Offer}
use Rattle.terms.specs.Tables.{put, sum_below}
use Rattle.terms.proofs.Tables.{put_cases, put_there}
use Rattle.margin.specs.Sheets.{Sheet, no_lots, raised, fresh_sheet, can_set_factor, with_factor, after_set_factor, can_record, recorded, after_record, need_of, need_with}
use Rattle.margin.specs.declared.refusal.KeeperRefusal.{KeeperRefusal}
use Rattle.positions.specs.declared.lots.LotsTable.{LotsTable}
use Rattle.positions.specs.Charges.{summed, amount_at, standard_amount}
use Rattle.positions.specs.Reads.{sheet_of}
use Rattle.positions.specs.Amounts.{standard_none}
use Rattle.positions.proofs.Sheets.{sheet_lawful}
use Rattle.positions.proofs.Sums.{summed_none}

-- What the running keeper keeps of each member.
abbrev standard_need : Sheet → ℕ → ℕ
standard_need = need_of (summed standard_amount)

pub zero_at : (n m : ℕ) → ◌≡◌ {A = ℕ} (get_or (replicate n 0) m 0) 0
zero_at zero m = refl
zero_at (suc n) zero = refl
zero_at (suc n) (suc m) = zero_at n m

pub fresh_need : {reach : ℕ} (table : LotsTable reach) → sheet_of table ≡ fresh_sheet → (m : ℕ) → standard_need (sheet_of table) m ≡ 0
fresh_need table fresh m =
    ap (λ (k : Sheet). standard_need k m) fresh
    ∙ cond_both (ltb m 32) (summed standard_amount (λ _. 0) no_lots) 0 (λ z. z ≡ 0) (λ _. summed_none standard_amount standard_none (λ _. 0)) (λ _. refl)

-- A factor set where there was none meets no lots, so it changes no charge.
unused_factor : (k : Sheet) (i f m : ℕ) → k.factor i ≡ 0 → ((s : Side) → k.factor i ≡ 0 → k.held m s i ≡ 0)
    → summed standard_amount (put k.factor i f) (k.held m) ≡ summed standard_amount k.factor (k.held m)
unused_factor k i f m none empty = ap (sum_below 16) (fun_ext place)
  where
    idle : (j g : ℕ) → i ≡ j → standard_amount g (k.held m Bid j) (k.held m Offer j) ≡ 0
    idle j g e =
        let bought : k.held m Bid j ≡ 0 = ap (k.held m Bid) (sym e) ∙ empty Bid none in
        let sold : k.held m Offer j ≡ 0 = ap (k.held m Offer) (sym e) ∙ empty Offer none in
        ap₂ (standard_amount g) bought sold ∙ standard_none g

    place : (j : ℕ) → amount_at standard_amount (put k.factor i f) (k.held m) j ≡ amount_at standard_amount k.factor (k.held m) j
    place j = put_cases k.factor i f j (λ z. standard_amount z (k.held m Bid j) (k.held m Offer j) ≡ amount_at standard_amount k.factor (k.held m) j)
        (λ e. idle j f e ∙ sym (idle j (k.factor j) e)) (λ _. refl)

pub need_after_set_factor : {reach : ℕ} (before after : LotsTable reach) (i f : ℕ) → sheet_of after ≡ after_set_factor (sheet_of before) i f
    → (m : ℕ) → standard_need (sheet_of before) m ≡ standard_need (sheet_of after) m
need_after_set_factor before after i f e m = sym (ap (λ (k : Sheet). standard_need k m) e ∙ cond_both (can_set_factor (sheet_of before) i f) (with_factor (sheet_of before) i f) (sheet_of before) (λ (k : Sheet). standard_need k m ≡ standard_need (sheet_of before) m) set_now (λ _. refl))
  where
    set_now : can_set_factor (sheet_of before) i f ≡ true → standard_need (with_factor (sheet_of before) i f) m ≡ standard_need (sheet_of before) m
    set_now can =
        let none : (sheet_of before).factor i ≡ 0 = eqb-true ((sheet_of before).factor i) 0 (and_parts (eqb ((sheet_of before).factor i) 0) (leb 1 f && leb f 100000) (and_parts (ltb i 16) (eqb ((sheet_of before).factor i) 0 && (leb 1 f && leb f 100000)) can).1).0 in
        ap (λ z. cond (ltb m 32) z 0) (unused_factor (sheet_of before) i f m none (λ s. (sheet_lawful before).no_factor_no_lots m s i))

-- A record changes one member's need, to what need with answered before it.
pub need_after_record : {reach : ℕ} (before after : LotsTable reach) (needs : List ℕ) (within m i : ℕ) (s : Side) (q need : ℕ)
    → ((k : ℕ) → get_or needs k 0 ≡ standard_need (sheet_of before) k)
    → length needs ≡ 32
    → ◌≡◌ {A = Result ℕ KeeperRefusal} (Ok need) (need_with (summed standard_amount) within (sheet_of before) m i s q)
    → true ≡ can_record within (sheet_of before) m i s q
    → sheet_of after ≡ after_record within (sheet_of before) m i s q
    → (k : ℕ) → get_or (set needs m need) k 0 ≡ standard_need (sheet_of after) k
need_after_record before after needs within m i s q need kept size asked can done k = ⊎_elim own other (cases_eq m k)
  where
    now : (j : ℕ) → standard_need (recorded (sheet_of before) m i s q) j ≡ standard_need (sheet_of after) j
    now j = ap (λ (z : Sheet). standard_need z j) (sym (done ∙ cond-true (can_record within (sheet_of before) m i s q) (recorded (sheet_of before) m i s q) (sheet_of before) (sym can)))

    member : m < 32
    member = ltb-true m 32 (and_parts (ltb m 32) _ (sym can)).0

    answer : ◌≡◌ {A = Result ℕ KeeperRefusal} (Ok need) (Ok (standard_need (recorded (sheet_of before) m i s q) m))
    answer = asked ∙ cond-true _ _ _ (sym can)

    own : m ≡ k → get_or (set needs m need) k 0 ≡ standard_need (sheet_of after) k
    own e =
        let value : need ≡ standard_need (recorded (sheet_of before) m i s q) m = cc in
        subst (λ j. get_or (set needs m need) j 0 ≡ standard_need (sheet_of after) j) e (get_or-set_same needs m need 0 (omega (arith, member)) ∙ value ∙ now m)

    other : (m ≡ k → ⊥) → get_or (set needs m need) k 0 ≡ standard_need (sheet_of after) k
    other ne =
        let same : (sheet_of before).held k ≡ (recorded (sheet_of before) m i s q).held k = sym (put_there (sheet_of before).held m (raised ((sheet_of before).held m) s i q) k ne) in
        get_or-set_other needs m k need 0 (λ e. ne (sym e)) ∙ kept k ∙ ap (λ t. cond (ltb k 32) (summed standard_amount (sheet_of before).factor t) 0) same ∙ now k

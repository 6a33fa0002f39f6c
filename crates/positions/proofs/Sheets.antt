-- The sheet that a table of lots means, as one instrument of the table is written.
use Rattle.std.proofs.Common.{◌≡◌, ℕ, ◌+◌, ◌<◌, ◌≤◌, Bool, true, false, cond, not, ◌&&◌, eqb, leb, List, length, get_or, set, replicate, sym, refl, ap, ◌∙◌, subst, ap₂, ⊎_elim, arith}
use mathlib.Core.Path.{fun_ext}
use Rattle.std.proofs.lemmas.Bool.{lt-ltb, leb-true, eqb-false, not-true, and_parts, cond-true, cond-false, cases_Bool}
use Rattle.terms.specs.declared.Side.{Side}
use Rattle.terms.specs.Tables.{put}
use Rattle.terms.proofs.Tables.{put_cases, put_same, column_at, column_past, column_set, column_all, column_follows, column_replicate}
use Rattle.margin.specs.Sheets.{Sheet, Totals, no_lots, raised, fresh_sheet, can_set_factor, with_factor, after_set_factor, can_record, recorded, after_record}
use Rattle.margin.proofs.Raises.{raised_alike, raised_there}
use Rattle.margin.specs.Laws.{Lawful}
use Rattle.positions.specs.declared.lots.InstrumentLots.{InstrumentLots}
use Rattle.positions.specs.declared.lots.LotsTable.{LotsTable}
use Rattle.positions.specs.Totals.{total_on}
use Rattle.positions.specs.Reads.{lots_in, sheet_of, can_take_factor, can_grow}

abbrev pub table_of : {reach : ℕ} → List (InstrumentLots reach) → LotsTable reach
table_of xs = record { instruments = xs }

sheet_eq : (f g : ℕ → ℕ) (h k : ℕ → Totals) → f ≡ g → h ≡ k → ◌≡◌ {A = Sheet} (record { factor = f; held = h }) (record { factor = g; held = k })
sheet_eq f g h k e d = ap₂ (λ (a : ℕ → ℕ) (b : ℕ → Totals). record { factor = a; held = b }) e d

-- What was raised by side and member within one instrument was raised by side and instrument within one member.
held_raised : (H : ℕ → Totals) (m i q : ℕ) (s : Side) (lots : Side → ℕ → ℕ) → ((k : ℕ) (u : Side) → H k u i ≡ lots u k)
    → (λ k u. put (H k u) i (raised lots s m q u k)) ≡ put H m (raised (H m) s i q)
held_raised H m i q s lots at = fun_ext (λ k. put_cases H m (raised (H m) s i q) k (λ (z : Totals). (λ u. put (H k u) i (raised lots s m q u k)) ≡ z) (here k) (there k))
  where
    own : (u : Side) (j : ℕ) → put (H m u) i (raised lots s m q u m) j ≡ raised (H m) s i q u j
    own u j =
        put_cases (H m u) i (raised lots s m q u m) j (λ z. z ≡ raised (H m) s i q u j)
        (λ e. subst (λ k. raised lots s m q u m ≡ raised (H m) s i q u k) e (raised_alike lots (H m) s m i q (λ v. sym (at m v)) u))
        (λ ne. sym (raised_there (H m) s i q u j ne))

    here : (k : ℕ) → m ≡ k → (λ u. put (H k u) i (raised lots s m q u k)) ≡ raised (H m) s i q
    here k e = subst (λ z. (λ u. put (H z u) i (raised lots s m q u z)) ≡ raised (H m) s i q) e (fun_ext (λ u. fun_ext (own u)))

    there : (k : ℕ) → (m ≡ k → ⊥) → (λ u. put (H k u) i (raised lots s m q u k)) ≡ H k
    there k ne = fun_ext (λ u. put_same (H k u) i (raised lots s m q u k) (at k u ∙ sym (raised_there lots s m q u k ne)))

module _ {reach : ℕ} (xs : List (InstrumentLots reach)) (i : ℕ) (x : InstrumentLots reach) (l : i < 16) (h : i < length xs) where
  pub factor_at : (sheet_of (table_of xs)).factor i ≡ (get_or xs i x).factor
  factor_at = column_at 16 xs (λ y. y.factor) i x l h

  pub held_at : (m : ℕ) (s : Side) → (sheet_of (table_of xs)).held m s i ≡ lots_in (get_or xs i x) s m
  held_at m s = column_at 16 xs (λ y. lots_in y s m) i x l h

  -- The sheet once another instrument stands in this one's place.
  written : (y : InstrumentLots reach) → sheet_of (table_of (set xs i y)) ≡ record { factor = put (sheet_of (table_of xs)).factor i y.factor; held = λ m s. put ((sheet_of (table_of xs)).held m s) i (lots_in y s m) }
  written y = sheet_eq _ _ _ _ (column_set 16 xs (λ z. z.factor) i y l h) (fun_ext (λ m. fun_ext (λ s. column_set 16 xs (λ z. lots_in z s m) i y l h)))

  same_held : (y : InstrumentLots reach) → lots_in y ≡ lots_in (get_or xs i x) → (λ m s. put ((sheet_of (table_of xs)).held m s) i (lots_in y s m)) ≡ (sheet_of (table_of xs)).held
  same_held y e = fun_ext (λ m. fun_ext (λ s. put_same ((sheet_of (table_of xs)).held m s) i (lots_in y s m) (held_at m s ∙ ap (λ (z : Side → ℕ → ℕ). z s m) (sym e))))

  sheet_with_factor : (y : InstrumentLots reach) (f : ℕ) → y.factor ≡ f → lots_in y ≡ lots_in (get_or xs i x) → sheet_of (table_of (set xs i y)) ≡ with_factor (sheet_of (table_of xs)) i f
  sheet_with_factor y f e d = written y ∙ sheet_eq _ _ _ _ (ap (put (sheet_of (table_of xs)).factor i) e) (same_held y d)

  sheet_recorded : (y : InstrumentLots reach) (m : ℕ) (s : Side) (q : ℕ) → y.factor ≡ (get_or xs i x).factor → lots_in y ≡ raised (lots_in (get_or xs i x)) s m q → sheet_of (table_of (set xs i y)) ≡ recorded (sheet_of (table_of xs)) m i s q
  sheet_recorded y m s q e d =
      written y
      ∙ sheet_eq _ _ _ _
      (put_same (sheet_of (table_of xs)).factor i y.factor (factor_at ∙ sym e))
      (ap (λ (z : Side → ℕ → ℕ). (λ k u. put ((sheet_of (table_of xs)).held k u) i (z u k))) d ∙ held_raised (sheet_of (table_of xs)).held m i q s (lots_in (get_or xs i x)) held_at)

  sheet_same : (y : InstrumentLots reach) → y.factor ≡ (get_or xs i x).factor → lots_in y ≡ lots_in (get_or xs i x) → sheet_of (table_of (set xs i y)) ≡ sheet_of (table_of xs)
  sheet_same y e d = written y ∙ sheet_eq _ _ _ _ (put_same (sheet_of (table_of xs)).factor i y.factor (factor_at ∙ sym e)) (same_held y d)

  pub can_set_factor_at : (f : ℕ) → can_set_factor (sheet_of (table_of xs)) i f ≡ can_take_factor (get_or xs i x) f
  can_set_factor_at f =
      ap (λ b. b && (eqb ((sheet_of (table_of xs)).factor i) 0 && (leb 1 f && leb f 100000))) (lt-ltb i 16 l)
      ∙ ap (λ z. eqb z 0 && (leb 1 f && leb f 100000)) factor_at

  pub sheet_after_set_factor : (y : InstrumentLots reach) (f : ℕ) → y.factor ≡ cond (can_take_factor (get_or xs i x) f) f (get_or xs i x).factor → lots_in y ≡ lots_in (get_or xs i x)
      → sheet_of (table_of (set xs i y)) ≡ after_set_factor (sheet_of (table_of xs)) i f
  sheet_after_set_factor y f e d = ⊎_elim done refused (cases_Bool (can_take_factor (get_or xs i x) f))
    where
      done : can_take_factor (get_or xs i x) f ≡ true → sheet_of (table_of (set xs i y)) ≡ after_set_factor (sheet_of (table_of xs)) i f
      done can = sheet_with_factor y f (e ∙ cond-true _ _ _ can) d ∙ sym (cond-true _ _ _ (can_set_factor_at f ∙ can))

      refused : can_take_factor (get_or xs i x) f ≡ false → sheet_of (table_of (set xs i y)) ≡ after_set_factor (sheet_of (table_of xs)) i f
      refused cannot = sheet_same y (e ∙ cond-false _ _ _ cannot) d ∙ sym (cond-false _ _ _ (can_set_factor_at f ∙ cannot))

  pub can_record_at : (within m : ℕ) (s : Side) (q : ℕ) → m < 32 → can_record within (sheet_of (table_of xs)) m i s q ≡ can_grow within (get_or xs i x) m s q
  can_record_at within m s q lm =
      ap (λ b. b && (not (eqb ((sheet_of (table_of xs)).factor i) 0) && (leb 1 q && leb ((sheet_of (table_of xs)).held m s i + q) within))) (lt-ltb m 32 lm)
      ∙ ap₂ (λ f t. not (eqb f 0) && (leb 1 q && leb (t + q) within)) factor_at (held_at m s)

  pub can_record_from : (within m : ℕ) (s : Side) (q : ℕ) (b : Bool) → m < 32 → b ≡ can_grow within (get_or xs i x) m s q → can_record within (sheet_of (table_of xs)) m i s q ≡ b
  can_record_from within m s q b lm e = can_record_at within m s q lm ∙ sym e

  pub sheet_after_record : (within : ℕ) (y : InstrumentLots reach) (m : ℕ) (s : Side) (q : ℕ) → m < 32 → y.factor ≡ (get_or xs i x).factor
      → lots_in y ≡ cond (can_grow within (get_or xs i x) m s q) (raised (lots_in (get_or xs i x)) s m q) (lots_in (get_or xs i x))
      → sheet_of (table_of (set xs i y)) ≡ after_record within (sheet_of (table_of xs)) m i s q
  sheet_after_record within y m s q lm e d = ⊎_elim done refused (cases_Bool (can_grow within (get_or xs i x) m s q))
    where
      done : can_grow within (get_or xs i x) m s q ≡ true → sheet_of (table_of (set xs i y)) ≡ after_record within (sheet_of (table_of xs)) m i s q
      done can = sheet_recorded y m s q e (d ∙ cond-true _ _ _ can) ∙ sym (cond-true _ _ _ (can_record_at within m s q lm ∙ can))

      refused : can_grow within (get_or xs i x) m s q ≡ false → sheet_of (table_of (set xs i y)) ≡ after_record within (sheet_of (table_of xs)) m i s q
      refused cannot = sheet_same y e (d ∙ cond-false _ _ _ cannot) ∙ sym (cond-false _ _ _ (can_record_at within m s q lm ∙ cannot))

-- Lots that may be recorded meet a factor, and stay within the reach.
pub grows : {reach : ℕ} (within : ℕ) (x : InstrumentLots reach) (m : ℕ) (s : Side) (q : ℕ) → true ≡ can_grow within x m s q → (x.factor ≡ 0 → ⊥) × (lots_in x s m + q ≤ within)
grows within x m s q can =
    let parts = and_parts (not (eqb x.factor 0)) (leb 1 q && leb (lots_in x s m + q) within) (sym can) in
    (eqb-false x.factor 0 (not-true (eqb x.factor 0) parts.0), leb-true (lots_in x s m + q) within (and_parts (leb 1 q) (leb (lots_in x s m + q) within) parts.1).1)

pub held_past : {reach : ℕ} (table : LotsTable reach) (m : ℕ) → 32 ≤ m → (s : Side) (i : ℕ) → (sheet_of table).held m s i ≡ 0
held_past table m l s = column_all (λ z. z ≡ 0) refl 16 table.instruments (λ x. lots_in x s m) (λ x. column_past 32 x.members (λ lots. total_on lots s) m l)

-- Every table means a sheet as a keeper may hold it.
pub sheet_lawful : {reach : ℕ} (table : LotsTable reach) → Lawful reach (sheet_of table)
sheet_lawful {reach} table =
    record {
      factor_in_range = column_all (λ z. z ≤ 100000) (omega arith) 16 table.instruments (λ x. x.factor) (λ x. x.factor_in_range);
      no_factor_past = column_past 16 table.instruments (λ x. x.factor);
      total_in_reach = λ m s. column_all (λ z. z ≤ reach) (omega arith) 16 table.instruments (λ x. lots_in x s m) (λ x. x.in_reach s m);
      no_factor_no_lots = λ m s i. column_follows table.instruments (λ x. x.factor) (λ x. lots_in x s m) 16 (λ x. x.only_with_factor s m) i;
      no_lots_past = held_past table;
    }

pub fresh_table : {reach : ℕ} (x : InstrumentLots reach) → x.factor ≡ 0 → lots_in x ≡ no_lots → sheet_of (table_of (replicate 16 x)) ≡ fresh_sheet
fresh_table x no_factor empty =
    sheet_eq _ _ _ _ (column_replicate 16 16 x (λ y. y.factor) no_factor)
    (fun_ext (λ m. fun_ext (λ s. column_replicate 16 16 x (λ y. lots_in y s m) (ap (λ (z : Side → ℕ → ℕ). z s m) empty))))

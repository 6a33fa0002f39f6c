-- The totals after a trade, as the keeper holds them and as the ledger enters them; and the needs on them.
use Rattle.std.proofs.Common.{◌≡◌, ℕ, ◌+◌, ◌*◌, ◌≤◌, Bool, true, false, cond, ◌&&◌, eqb, ltb, sym, refl, ap, ◌∙◌, arith}
use mathlib.Core.Path.{fun_ext}
use Rattle.std.proofs.lemmas.Bool.{cond_both, cond-true, cond-false, eq-eqb, ne_eqb, eqb-true, eqb-false}
use Rattle.terms.specs.declared.Side.{Side}
use Rattle.terms.specs.declared.Side.TheVariants.{Bid, Offer}
use Rattle.terms.specs.Sides.{same_side}
use Rattle.terms.specs.Tables.{put}
use Rattle.margin.specs.Sheets.{Totals, Sheet, Charge, no_lots, raised, recorded, traded}
use Rattle.margin.specs.Laws.{Within, NoLotsNoCharge, RiseBounded}
use Rattle.market.specs.Meeting.{opposite, by_side}
use Rattle.market.proofs.Sums.{eqb_swap}
use Rattle.runs.specs.Ledgers.{add_lots}

-- ---- totals raised

put_more : (table : ℕ → ℕ) (i q j : ℕ) → put table i (table i + q) j ≡ table j + cond (eqb i j) q 0
put_more table i q j =
    cond_both (eqb i j) q 0 (λ z. put table i (table i + q) j ≡ table j + z)
    (λ e. cond-true (eqb i j) (table i + q) (table j) e ∙ ap (λ z. table z + q) (eqb-true i j e))
    (λ e. cond-false (eqb i j) (table i + q) (table j) e ∙ omega arith)

raised_at : (totals : Totals) (side : Side) (i q : ℕ) (s : Side) (j : ℕ) → raised totals side i q s j ≡ totals s j + cond (same_side side s && eqb i j) q 0
raised_at totals Bid i q Bid j = put_more (totals Bid) i q j
raised_at totals Bid i q Offer j = omega arith
raised_at totals Offer i q Bid j = omega arith
raised_at totals Offer i q Offer j = put_more (totals Offer) i q j

-- Adding lots raises the totals of that member, and of no other.
pub add_lots_own : (h : ℕ → Totals) (m : ℕ) (side : Side) (i q : ℕ) → add_lots h m side i q m ≡ raised (h m) side i q
add_lots_own h m side i q = fun_ext (λ s. fun_ext (λ j. at s j (eqb m m) (eq-eqb m m refl)))
  where
    at : (s : Side) (j : ℕ) (own : Bool) → own ≡ true → h m s j + cond (same_side side s && (own && eqb i j)) q 0 ≡ raised (h m) side i q s j
    at s j true e = sym (raised_at (h m) side i q s j)
    at s j false e = absurd (Rattle.std.proofs.lemmas.Bool.false≢true e)

pub add_lots_other : (h : ℕ → Totals) (m : ℕ) (side : Side) (i q k : ℕ) → eqb m k ≡ false → add_lots h m side i q k ≡ h k
add_lots_other h m side i q k ne = fun_ext (λ s. fun_ext (λ j. at s j (eqb m k) (same_side side s) ne))
  where
    at : (s : Side) (j : ℕ) (own same : Bool) → own ≡ false → h k s j + cond (same && (own && eqb i j)) q 0 ≡ h k s j
    at s j true same e = absurd (Rattle.std.proofs.lemmas.Bool.false≢true (sym e))
    at s j false true e = omega arith
    at s j false false e = omega arith

recorded_totals : (sheet : Sheet) (m i : ℕ) (side : Side) (q : ℕ) → (recorded sheet m i side q).held ≡ add_lots sheet.held m side i q
recorded_totals sheet m i side q =
    fun_ext (λ k. cond_both (eqb m k) (raised (sheet.held m) side i q) (sheet.held k) (λ (z : Totals). z ≡ add_lots sheet.held m side i q k)
    (λ e. sym (add_lots_own sheet.held m side i q) ∙ ap (add_lots sheet.held m side i q) (eqb-true m k e))
    (λ e. sym (add_lots_other sheet.held m side i q k e)))

-- ---- a trade between the member a, on one side, and b, on the other

abbrev pub trade_totals : (ℕ → Totals) → Side → ℕ → ℕ → ℕ → ℕ → ℕ → Totals
trade_totals h side a b i q = add_lots (add_lots h a side i q) b (opposite side) i q

-- By buyer and seller it is the same.
pub trade_totals_by_side : (h : ℕ → Totals) (side : Side) (a b i q : ℕ) → add_lots (add_lots h (by_side side a b) Bid i q) (by_side side b a) Offer i q ≡ trade_totals h side a b i q
trade_totals_by_side h Bid a b i q = refl
trade_totals_by_side h Offer a b i q = fun_ext (λ k. fun_ext (λ s. fun_ext (λ j. omega arith)))

pub traded_totals : (sheet : Sheet) (side : Side) (a b i q : ℕ) → (traded sheet (by_side side a b) (by_side side b a) i q).held ≡ trade_totals sheet.held side a b i q
traded_totals sheet side a b i q =
    recorded_totals (recorded sheet (by_side side a b) i Bid q) (by_side side b a) i Offer q
    ∙ ap (λ h. add_lots h (by_side side b a) Offer i q) (recorded_totals sheet (by_side side a b) i Bid q)
    ∙ trade_totals_by_side sheet.held side a b i q

module _ (h : ℕ → Totals) (side : Side) (a b i q : ℕ) (apart : eqb a b ≡ false) where
  pub placing_totals : trade_totals h side a b i q a ≡ raised (h a) side i q
  placing_totals = add_lots_other (add_lots h a side i q) b (opposite side) i q a (eqb_swap b a ∙ apart) ∙ add_lots_own h a side i q

  pub other_totals : trade_totals h side a b i q b ≡ raised (h b) (opposite side) i q
  other_totals = add_lots_own (add_lots h a side i q) b (opposite side) i q ∙ ap (λ t. raised t (opposite side) i q) (add_lots_other h a side i q b apart)

pub else_totals : (h : ℕ → Totals) (side : Side) (a b i q k : ℕ) → eqb a k ≡ false → eqb b k ≡ false → trade_totals h side a b i q k ≡ h k
else_totals h side a b i q k d e = add_lots_other (add_lots h a side i q) b (opposite side) i q k e ∙ add_lots_other h a side i q k d

-- ---- needs

-- A member's need by factors and totals.
abbrev pub need_on : Charge → (ℕ → ℕ) → Totals → ℕ → ℕ
need_on charge factor totals k = cond (ltb k 32) (charge factor totals) 0

pub need_none : (charge : Charge) → NoLotsNoCharge charge → (factor : ℕ → ℕ) (k : ℕ) → need_on charge factor no_lots k ≡ 0
need_none charge none factor k = cond_both (ltb k 32) (charge factor no_lots) 0 (λ z. z ≡ 0) (λ _. none factor) (λ _. refl)

pub need_rise : (charge : Charge) (reach : ℕ) → RiseBounded charge reach → (factor : ℕ → ℕ) (totals : Totals) (side : Side) (i q k : ℕ) → Within reach totals → totals side i + q ≤ reach → need_on charge factor (raised totals side i q) k ≤ need_on charge factor totals k + 2 * (factor i * q)
need_rise charge reach rise factor totals side i q k within fits = go (ltb k 32)
  where
    go : (b : Bool) → cond b (charge factor (raised totals side i q)) 0 ≤ cond b (charge factor totals) 0 + 2 * (factor i * q)
    go true = rise factor totals side i q within fits
    go false = omega arith

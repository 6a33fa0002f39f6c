-- Lots held, pending and still to come stay within the reach, and what is bought is sold.
use Rattle.std.proofs.Common.{◌≡◌, ℕ, ◌+◌, ◌-◌, ◌<◌, ◌≤◌, Bool, true, false, cond, ◌&&◌, eqb, ltb, List, ◌∷◌, sym, refl, ap, ◌∙◌, subst, arith}
use Rattle.std.proofs.lemmas.Bool.{cond_both, cond-true, cond-false, eq-eqb, ne_eqb, ltb-false}
use Rattle.terms.specs.declared.Order.{Order}
use Rattle.terms.specs.declared.Side.{Side}
use Rattle.terms.specs.declared.Side.TheVariants.{Bid, Offer}
use Rattle.terms.specs.Sides.{same_side}
use Rattle.terms.specs.Tables.{put, sum_below}
use Rattle.terms.proofs.Tables.{put_cases}
use Rattle.row.specs.Rates.{precedes}
use Rattle.row.specs.Rows.{inserted}
use Rattle.margin.specs.Sheets.{Totals}
use Rattle.market.specs.Markets.{Rows, put_row, sum_over, is_of, lots_of}
use Rattle.market.specs.Cancels.{rows_without}
use Rattle.market.specs.Meeting.{opposite, row_filled}
use Rattle.market.proofs.Sums.{sum_more_at}
use Rattle.market.proofs.Weights.{sum_over_split, sum_over_inserted}
use Rattle.market.proofs.Sums.{eqb_swap}
use Rattle.runs.proofs.Totals.{trade_totals}

-- The rest of an order that is placed by the member a on one side of the instrument i.
abbrev pub coming : Side → ℕ → ℕ → ℕ → ℕ → Totals
coming side a i rest k s j = cond (same_side side s && (eqb a k && eqb i j)) rest 0

abbrev pub Reached : ℕ → (ℕ → Totals) → Rows → (ℕ → Totals) → Type 0
Reached reach held rows more = (k : ℕ) (s : Side) (j : ℕ) → held k s j + lots_of k (rows s j) + more k s j ≤ reach

pub reached_without : (reach : ℕ) (held : ℕ → Totals) (rows : Rows) (more : ℕ → Totals) (picked : Order → Bool) → Reached reach held rows more → Reached reach held (rows_without picked rows) more
reached_without reach held rows more picked h k s j = omega (arith, h k s j, sum_over_split (λ order. cond (is_of k order) order.lots 0) picked (rows s j))

pub reached_less : (reach : ℕ) (held : ℕ → Totals) (rows : Rows) (side : Side) (a i rest less : ℕ) → less ≤ rest → Reached reach held rows (coming side a i rest) → Reached reach held rows (coming side a i less)
reached_less reach held rows side a i rest less l h k s j = go (same_side side s && (eqb a k && eqb i j)) (h k s j)
  where
    go : (b : Bool) → held k s j + lots_of k (rows s j) + cond b rest 0 ≤ reach → held k s j + lots_of k (rows s j) + cond b less 0 ≤ reach
    go true g = omega arith
    go false g = g

-- ---- a trade

pub lots_of_filled : (k : ℕ) (first : Order) (q : ℕ) (others : List Order) → q ≤ first.lots → lots_of k (row_filled first q others) + cond (is_of k first) q 0 ≡ lots_of k (first ∷ others)
unfolding sum_over
lots_of_filled k first q others l =
    cond_both (ltb q first.lots) _ others (λ row. lots_of k row + cond (is_of k first) q 0 ≡ lots_of k (first ∷ others)) (λ _. part (is_of k first)) (λ e. whole (ltb-false q first.lots e) (is_of k first))
  where
    part : (b : Bool) → cond b (first.lots - q) 0 + lots_of k others + cond b q 0 ≡ cond b first.lots 0 + lots_of k others
    part true = omega arith
    part false = omega arith

    whole : first.lots ≤ q → (b : Bool) → lots_of k others + cond b q 0 ≡ cond b first.lots 0 + lots_of k others
    whole m true = omega arith
    whole m false = omega arith

-- The first of a row is among its member's lots.
pub lots_of_first : (first : Order) (others : List Order) → first.lots ≤ lots_of first.member (first ∷ others)
unfolding sum_over
lots_of_first first others = let own = cond-true (is_of first.member first) first.lots 0 (eq-eqb first.member first.member refl) in omega arith

-- On the side of the placed order.
own_side : (reach held pending q rest : ℕ) (b : Bool) → q ≤ rest → held + pending + cond b rest 0 ≤ reach → held + cond b q 0 + 0 + pending + cond b (rest - q) 0 ≤ reach
own_side reach held pending q rest true l h = omega arith
own_side reach held pending q rest false l h = omega arith

-- On the side of the pending order.
other_side : (reach : ℕ) (held : ℕ → ℕ → ℕ) (row : ℕ → List Order) (first : Order) (others : List Order) (i q k j : ℕ) → q ≤ first.lots → row i ≡ (first ∷ others) → held k j + lots_of k (row j) + 0 ≤ reach → held k j + 0 + cond (eqb first.member k && eqb i j) q 0 + lots_of k (put row i (row_filled first q others) j) + 0 ≤ reach
other_side reach held row first others i q k j l e h =
    put_cases row i (row_filled first q others) j (λ z. held k j + 0 + cond (eqb first.member k && eqb i j) q 0 + lots_of k z + 0 ≤ reach)
    (λ d. let same = cond_same (eqb first.member k) (eqb i j) (eq-eqb i j d) in let swap = ap (λ b. cond b q 0) (eqb_swap first.member k) in let old = ap (lots_of k) (ap row (sym d) ∙ e) in omega (arith, lots_of_filled k first q others l))
    (λ d. let none = cond_none (eqb first.member k) (eqb i j) (ne_eqb i j d) in omega arith)
  where
    cond_same : (b c : Bool) → c ≡ true → cond (b && c) q 0 ≡ cond b q 0
    cond_same true c f = cond-true c q 0 f
    cond_same false c f = refl

    cond_none : (b c : Bool) → c ≡ false → cond (b && c) q 0 ≡ 0
    cond_none true c f = cond-false c q 0 f
    cond_none false c f = refl

pub reached_traded : (reach : ℕ) (held : ℕ → Totals) (rows : Rows) (side : Side) (a i q rest : ℕ) (first : Order) (others : List Order) → rows (opposite side) i ≡ (first ∷ others) → q ≤ rest → q ≤ first.lots → Reached reach held rows (coming side a i rest) → Reached reach (trade_totals held side a first.member i q) (put_row rows (opposite side) i (row_filled first q others)) (coming side a i (rest - q))
reached_traded reach held rows Bid a i q rest first others e l m h k Bid j = own_side reach (held k Bid j) (lots_of k (rows Bid j)) q rest (eqb a k && eqb i j) l (h k Bid j)
reached_traded reach held rows Bid a i q rest first others e l m h k Offer j = other_side reach (λ k j. held k Offer j) (rows Offer) first others i q k j m e (h k Offer j)
reached_traded reach held rows Offer a i q rest first others e l m h k Bid j = other_side reach (λ k j. held k Bid j) (rows Bid) first others i q k j m e (h k Bid j)
reached_traded reach held rows Offer a i q rest first others e l m h k Offer j = own_side reach (held k Offer j) (lots_of k (rows Offer j)) q rest (eqb a k && eqb i j) l (h k Offer j)

-- ---- an order begins, and is stored

begins_side : (reach : ℕ) (held : ℕ → ℕ → ℕ) (row : ℕ → List Order) (a i lots : ℕ) → ((k j : ℕ) → held k j + lots_of k (row j) + 0 ≤ reach) → held a i + lots_of a (row i) + lots ≤ reach → (k j : ℕ) → held k j + lots_of k (row j) + cond (eqb a k && eqb i j) lots 0 ≤ reach
begins_side reach held row a i lots h l k j = go (eqb a k) (eqb i j) refl refl
  where
    go : (x y : Bool) → eqb a k ≡ x → eqb i j ≡ y → held k j + lots_of k (row j) + cond (x && y) lots 0 ≤ reach
    go true true d e = subst (λ z. held z j + lots_of z (row j) + lots ≤ reach) (Rattle.std.proofs.lemmas.Bool.eqb-true a k d) (subst (λ z. held a z + lots_of a (row z) + lots ≤ reach) (Rattle.std.proofs.lemmas.Bool.eqb-true i j e) l)
    go true false d e = h k j
    go false true d e = h k j
    go false false d e = h k j

pub reached_begins : (reach : ℕ) (held : ℕ → Totals) (rows : Rows) (side : Side) (a i lots : ℕ) → Reached reach held rows (λ _ _ _. 0) → held a side i + lots_of a (rows side i) + lots ≤ reach → Reached reach held rows (coming side a i lots)
reached_begins reach held rows Bid a i lots h l k Bid j = begins_side reach (λ k j. held k Bid j) (rows Bid) a i lots (λ k j. h k Bid j) l k j
reached_begins reach held rows Bid a i lots h l k Offer j = h k Offer j
reached_begins reach held rows Offer a i lots h l k Bid j = h k Bid j
reached_begins reach held rows Offer a i lots h l k Offer j = begins_side reach (λ k j. held k Offer j) (rows Offer) a i lots (λ k j. h k Offer j) l k j

pub reached_none : (reach : ℕ) (held : ℕ → Totals) (rows : Rows) (side : Side) (a i : ℕ) → Reached reach held rows (coming side a i 0) → Reached reach held rows (λ _ _ _. 0)
reached_none reach held rows side a i h k s j = omega (arith, h k s j)

stored_side : (reach : ℕ) (before : Order → Order → Bool) (held : ℕ → ℕ → ℕ) (row : ℕ → List Order) (i : ℕ) (x : Order) (k j : ℕ) → held k j + lots_of k (row j) + cond (eqb x.member k && eqb i j) x.lots 0 ≤ reach → held k j + lots_of k (put row i (inserted before x (row i)) j) + 0 ≤ reach
stored_side reach before held row i x k j h =
    put_cases row i (inserted before x (row i)) j (λ z. held k j + lots_of k z + 0 ≤ reach)
    (λ e. let more = sum_over_inserted (λ order. cond (is_of k order) order.lots 0) before x (row i) in let old = ap (λ z. lots_of k (row z)) e in let here = lots_here (eqb x.member k) (eqb i j) (eq-eqb i j e) in let swap = ap (λ b. cond b x.lots 0) (eqb_swap x.member k) in omega arith)
    (λ _. omega arith)
  where
    lots_here : (b c : Bool) → c ≡ true → cond (b && c) x.lots 0 ≡ cond b x.lots 0
    lots_here true c f = cond-true c x.lots 0 f
    lots_here false c f = refl

pub reached_stored : (reach : ℕ) (held : ℕ → Totals) (rows : Rows) (side : Side) (i : ℕ) (x : Order) → Reached reach held rows (coming side x.member i x.lots) → Reached reach held (put_row rows side i (inserted (precedes side) x (rows side i))) (λ _ _ _. 0)
reached_stored reach held rows Bid i x h k Bid j = stored_side reach (precedes Bid) (λ k j. held k Bid j) (rows Bid) i x k j (h k Bid j)
reached_stored reach held rows Bid i x h k Offer j = h k Offer j
reached_stored reach held rows Offer i x h k Bid j = h k Bid j
reached_stored reach held rows Offer i x h k Offer j = stored_side reach (precedes Offer) (λ k j. held k Offer j) (rows Offer) i x k j (h k Offer j)

-- ---- what is bought is sold

abbrev pub Balanced : (ℕ → Totals) → Type 0
Balanced held = (i : ℕ) → sum_below 32 (λ m. held m Bid i) ≡ sum_below 32 (λ m. held m Offer i)

-- One party's lots more, in one instrument.
party_sum : (held after : ℕ → ℕ) (a q : ℕ) (here : Bool) → a < 32 → ((m : ℕ) → after m ≡ held m + cond (eqb a m && here) q 0) → sum_below 32 after ≡ sum_below 32 held + cond here q 0
party_sum held after a q here l more = sum_more_at 32 a (cond here q 0) held after l (λ m. more m ∙ ap (λ z. held m + z) (at (eqb a m) here))
  where
    at : (b c : Bool) → cond (b && c) q 0 ≡ cond b (cond c q 0) 0
    at true c = refl
    at false c = refl

pub balanced_traded : (held : ℕ → Totals) (side : Side) (a b i q : ℕ) → a < 32 → b < 32 → Balanced held → Balanced (trade_totals held side a b i q)
balanced_traded held Bid a b i q l m h j =
    let bought = party_sum (λ k. held k Bid j) (λ k. trade_totals held Bid a b i q k Bid j) a q (eqb i j) l (λ k. omega arith) in
    let sold = party_sum (λ k. held k Offer j) (λ k. trade_totals held Bid a b i q k Offer j) b q (eqb i j) m (λ k. omega arith) in
    omega (arith, h j)
balanced_traded held Offer a b i q l m h j =
    let sold = party_sum (λ k. held k Offer j) (λ k. trade_totals held Offer a b i q k Offer j) a q (eqb i j) l (λ k. omega arith) in
    let bought = party_sum (λ k. held k Bid j) (λ k. trade_totals held Offer a b i q k Bid j) b q (eqb i j) m (λ k. omega arith) in
    omega (arith, h j)

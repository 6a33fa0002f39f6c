-- The rows that a book holds, after each change of its entries.
use Rattle.std.proofs.Common.{◌≡◌, ℕ, zero, suc, ◌-◌, ◌<◌, ◌≤◌, Bool, true, false, cond, not, ◌&&◌, eqb, ltb, ◌⊎◌, List, [], ◌∷◌, ◌++◌, map, filter, sym, refl, ap, ◌∙◌, subst, inl, inr, arith}
use mathlib.Core.Path.{fun_ext}
use Rattle.std.specs.List.{AllByRecursion}
use Rattle.std.proofs.lemmas.List.Elements.{filter-append}
use Rattle.std.proofs.ByRecursion.{All-weaker}
use Rattle.std.proofs.lemmas.List.{map-append}
use Rattle.std.proofs.lemmas.Bool.{cond_both, cond-true, cond-false, eqb-true, eq-eqb, ne_eqb, ltb-false, lt-ltb, le-ltb, and_parts, and_from, and_right, cases_order, false≢true}
use Rattle.std.proofs.lemmas.Bool.Decides.{nat_tests}
use Rattle.terms.specs.declared.Order.{Order}
use Rattle.terms.specs.declared.Side.{Side}
use Rattle.terms.specs.declared.Side.TheVariants.{Bid, Offer}
use Rattle.terms.specs.Sides.{same_side}
use Rattle.terms.proofs.Tables.{put_cases}
use Rattle.row.specs.Rates.{precedes as order_precedes}
use Rattle.row.specs.Rows.{inserted}
use Rattle.market.specs.Markets.{Rows, put_row, joined_below, pending_orders}
use Rattle.market.specs.Cancels.{rows_without}
use Rattle.market.proofs.Sums.{eqb_swap}
use Rattle.book.specs.declared.entry.Entry.{Entry}
use Rattle.book.specs.Entries.{precedes, precedes_by_side}
use Rattle.book.specs.Reads.{order_of, stands_at, rows_in, first_filled, entry_with_lots}
use Rattle.book.proofs.Standing.{Ordered, Stands}

-- ---- filters

pub none_kept : {A : Type 0} (p : A → Bool) (xs : List A) → AllByRecursion (λ x. p x ≡ false) xs → filter p xs ≡ []
none_kept p [] h = refl
none_kept p (x ∷ xs) h = cond-false (p x) (x ∷ filter p xs) (filter p xs) h.0 ∙ none_kept p xs h.1

all_kept : {A : Type 0} (p : A → Bool) (xs : List A) → AllByRecursion (λ x. p x ≡ true) xs → filter p xs ≡ xs
all_kept p [] h = refl
all_kept p (x ∷ xs) h = cond-true (p x) (x ∷ filter p xs) (filter p xs) h.0 ∙ ap (λ ys. x ∷ ys) (all_kept p xs h.1)

-- What one test keeps of what another keeps, seen as orders.
kept_orders : (at : Entry → Bool) (p : Order → Bool) (xs : List Entry) → map order_of (filter at (filter (λ x. p (order_of x)) xs)) ≡ filter p (map order_of (filter at xs))
kept_orders at p [] = refl
kept_orders at p (x ∷ xs) = go (p (order_of x)) (at x) refl refl (kept_orders at p xs)
  where
    go : (b c : Bool) → p (order_of x) ≡ b → at x ≡ c → map order_of (filter at (filter (λ x. p (order_of x)) xs)) ≡ filter p (map order_of (filter at xs)) → map order_of (filter at (cond b (x ∷ filter (λ x. p (order_of x)) xs) (filter (λ x. p (order_of x)) xs))) ≡ filter p (map order_of (cond c (x ∷ filter at xs) (filter at xs)))
    go true true d e others = ap (λ z. map order_of z) (cond-true (at x) _ _ e) ∙ ap (λ ys. order_of x ∷ ys) others ∙ sym (cond-true (p (order_of x)) _ _ d)
    go true false d e others = ap (λ z. map order_of z) (cond-false (at x) _ _ e) ∙ others
    go false true d e others = others ∙ sym (cond-false (p (order_of x)) _ _ d)
    go false false d e others = others

-- The orders that a test picks leave the rows.
pub rows_kept : (picked : Order → Bool) (xs : List Entry) → rows_in (filter (λ x. not (picked (order_of x))) xs) ≡ rows_without picked (rows_in xs)
rows_kept picked xs = fun_ext (λ side. fun_ext (λ i. kept_orders (stands_at side i) (λ o. not (picked o)) xs))

-- ---- one row changed

same_side_swap : (s t : Side) → same_side s t ≡ same_side t s
same_side_swap Bid Bid = refl
same_side_swap Bid Offer = refl
same_side_swap Offer Bid = refl
same_side_swap Offer Offer = refl

-- Rows that are others but for one row.
put_row_is : (after rows : Rows) (s : Side) (i : ℕ) (row : List Order) → after s i ≡ row → ((t : Side) (j : ℕ) → (same_side s t && eqb i j) ≡ false → after t j ≡ rows t j) → after ≡ put_row rows s i row
put_row_is after rows s i row here there = fun_ext (λ t. fun_ext (λ j. at s t j here (λ u k e. there u k e)))
  where
    at : (s t : Side) (j : ℕ) → after s i ≡ row → ((u : Side) (k : ℕ) → (same_side s u && eqb i k) ≡ false → after u k ≡ rows u k) → after t j ≡ put_row rows s i row t j
    at Bid Bid j h k = put_cases (rows Bid) i row j (λ z. after Bid j ≡ z) (λ e. subst (λ z. after Bid z ≡ row) e h) (λ ne. k Bid j (ne_eqb i j ne))
    at Bid Offer j h k = k Offer j refl
    at Offer Bid j h k = k Bid j refl
    at Offer Offer j h k = put_cases (rows Offer) i row j (λ z. after Offer j ≡ z) (λ e. subst (λ z. after Offer z ≡ row) e h) (λ ne. k Offer j (ne_eqb i j ne))

-- An entry does not stand where its own place is not.
not_there : (e : Entry) (t : Side) (j : ℕ) → (same_side e.side t && eqb e.instrument j) ≡ false → stands_at t j e ≡ false
not_there e t j h = (λ k. same_side_swap t e.side k && eqb_swap j e.instrument k) ∙ h

stands_here : (e : Entry) → stands_at e.side e.instrument e ≡ true
stands_here e = and_from (same_side e.side e.side) (eqb e.instrument e.instrument) (same e.side) (eq-eqb e.instrument e.instrument refl)
  where
    same : (s : Side) → same_side s s ≡ true
    same Bid = refl
    same Offer = refl

-- ---- a new entry

kept_inserted_there : (p : Entry → Bool) (e : Entry) (xs : List Entry) → p e ≡ false → filter p (inserted precedes e xs) ≡ filter p xs
kept_inserted_there p e [] h = cond-false (p e) (e ∷ []) [] h
kept_inserted_there p e (x ∷ xs) h =
    cond_both (precedes e x) (e ∷ (x ∷ xs)) (x ∷ inserted precedes e xs) (λ z. filter p z ≡ filter p (x ∷ xs))
    (λ _. cond-false (p e) _ (filter p (x ∷ xs)) h)
    (λ _. ap (λ z. cond (p x) (x ∷ z) z) (kept_inserted_there p e xs h))

-- On one side of one instrument precedence is that of the orders.
precedes_there : (e x : Entry) → stands_at e.side e.instrument x ≡ true → precedes e x ≡ order_precedes e.side e.order x.order
precedes_there e x h =
    let p = and_parts (same_side e.side x.side) (eqb e.instrument x.instrument) h in
    let same = eqb-true e.instrument x.instrument p.1 in
    cond-false (ltb e.instrument x.instrument) true _ (le-ltb e.instrument x.instrument (omega arith))
    ∙ cond-false (ltb x.instrument e.instrument) false _ (le-ltb x.instrument e.instrument (omega arith))
    ∙ go e.side x.side p.0
  where
    go : (s t : Side) → same_side s t ≡ true → precedes_by_side s t e.order x.order ≡ order_precedes s e.order x.order
    go Bid Bid h = refl
    go Bid Offer h = absurd (false≢true h)
    go Offer Bid h = absurd (false≢true h)
    go Offer Offer h = refl

-- Behind an entry of another place that e precedes, none stands at e's place.
none_behind : (e x y : Entry) → precedes e x ≡ true → stands_at e.side e.instrument x ≡ false → precedes y x ≡ false → stands_at e.side e.instrument y ≡ false
none_behind e x y h k l = go e.side x.side y.side h k l
  where
    go : (s t u : Side) → cond (ltb e.instrument x.instrument) true (cond (ltb x.instrument e.instrument) false (precedes_by_side s t e.order x.order)) ≡ true → (same_side s t && eqb e.instrument x.instrument) ≡ false → cond (ltb y.instrument x.instrument) true (cond (ltb x.instrument y.instrument) false (precedes_by_side u t y.order x.order)) ≡ false → (same_side s u && eqb e.instrument y.instrument) ≡ false
    go Bid Bid Bid a b c = grind (arith, nat_tests)
    go Bid Bid Offer a b c = refl
    go Bid Offer Bid a b c = grind (arith, nat_tests)
    go Bid Offer Offer a b c = refl
    go Offer Bid Bid a b c = refl
    go Offer Bid Offer a b c = grind (arith, nat_tests)
    go Offer Offer Bid a b c = refl
    go Offer Offer Offer a b c = grind (arith, nat_tests)

kept_inserted_here : (e : Entry) (xs : List Entry) → Ordered xs → map order_of (filter (stands_at e.side e.instrument) (inserted precedes e xs)) ≡ inserted (order_precedes e.side) e.order (map order_of (filter (stands_at e.side e.instrument) xs))
kept_inserted_here e [] h = ap (λ z. map order_of z) (cond-true (stands_at e.side e.instrument e) (e ∷ []) [] (stands_here e))
kept_inserted_here e (x ∷ xs) h =
    cond_both (precedes e x) (e ∷ (x ∷ xs)) (x ∷ inserted precedes e xs) (λ z. map order_of (filter at z) ≡ inserted (order_precedes e.side) e.order (map order_of (filter at (x ∷ xs))))
    (λ before. ap (λ z. map order_of z) (cond-true (at e) (e ∷ filter at (x ∷ xs)) _ (stands_here e)) ∙ first (at x) refl before)
    (λ behind. later (at x) refl behind (kept_inserted_here e xs h.1))
  where
    at : Entry → Bool
    at = stands_at e.side e.instrument

    first : (b : Bool) → stands_at e.side e.instrument x ≡ b → precedes e x ≡ true → e.order ∷ map order_of (cond b (x ∷ filter (stands_at e.side e.instrument) xs) (filter (stands_at e.side e.instrument) xs)) ≡ inserted (order_precedes e.side) e.order (map order_of (cond b (x ∷ filter (stands_at e.side e.instrument) xs) (filter (stands_at e.side e.instrument) xs)))
    first true there before = sym (cond-true (order_precedes e.side e.order x.order) _ _ (sym (precedes_there e x there) ∙ before))
    first false there before =
        let none = none_kept (stands_at e.side e.instrument) xs (All-weaker (λ y. precedes y x ≡ false) (λ y. stands_at e.side e.instrument y ≡ false) (λ y k. none_behind e x y before there k) xs h.0) in
        subst (λ z. e.order ∷ map order_of z ≡ inserted (order_precedes e.side) e.order (map order_of z)) (sym none) refl

    later : (b : Bool) → stands_at e.side e.instrument x ≡ b → precedes e x ≡ false → map order_of (filter (stands_at e.side e.instrument) (inserted precedes e xs)) ≡ inserted (order_precedes e.side) e.order (map order_of (filter (stands_at e.side e.instrument) xs)) → map order_of (cond b (x ∷ filter (stands_at e.side e.instrument) (inserted precedes e xs)) (filter (stands_at e.side e.instrument) (inserted precedes e xs))) ≡ inserted (order_precedes e.side) e.order (map order_of (cond b (x ∷ filter (stands_at e.side e.instrument) xs) (filter (stands_at e.side e.instrument) xs)))
    later true there behind others = ap (λ ys. x.order ∷ ys) others ∙ sym (cond-false (order_precedes e.side e.order x.order) _ _ (sym (precedes_there e x there) ∙ behind))
    later false there behind others = others

pub rows_inserted : (e : Entry) (xs : List Entry) → Stands xs → rows_in (inserted precedes e xs) ≡ put_row (rows_in xs) e.side e.instrument (inserted (order_precedes e.side) e.order (rows_in xs e.side e.instrument))
rows_inserted e xs h =
    put_row_is (rows_in (inserted precedes e xs)) (rows_in xs) e.side e.instrument _ (kept_inserted_here e xs h.ordered)
    (λ t j ne. ap (λ z. map order_of z) (kept_inserted_there (stands_at t j) e xs (not_there e t j ne)))

-- ---- all orders

abbrev below : ℕ → Entry → Bool
below n x = ltb x.instrument n

-- The four tests of an entry, each by what it comes to.
by_tests : (x : Entry) (all front bids offers : List Entry) (t b p q t' b' p' q' : Bool) → t ≡ t' → b ≡ b' → p ≡ p' → q ≡ q' → cond t' (x ∷ all) all ≡ cond b' (x ∷ front) front ++ (cond p' (x ∷ bids) bids ++ cond q' (x ∷ offers) offers) → cond t (x ∷ all) all ≡ cond b (x ∷ front) front ++ (cond p (x ∷ bids) bids ++ cond q (x ∷ offers) offers)
by_tests x all front bids offers t b p q t' b' p' q' e f g h same = (λ k. cond (e k) (x ∷ all) all) ∙ same ∙ sym (λ k. cond (f k) (x ∷ front) front ++ (cond (g k) (x ∷ bids) bids ++ cond (h k) (x ∷ offers) offers))

none_below : (n : ℕ) (x : Entry) (xs : List Entry) → n ≤ x.instrument → AllByRecursion (λ y. precedes y x ≡ false) xs → filter (below n) xs ≡ []
none_below n x xs l h = none_kept (below n) xs (All-weaker (λ y. precedes y x ≡ false) (λ y. below n y ≡ false) (λ y k. not_below y y.side x.side k) xs h)
  where
    not_below : (y : Entry) (s t : Side) → cond (ltb y.instrument x.instrument) true (cond (ltb x.instrument y.instrument) false (precedes_by_side s t y.order x.order)) ≡ false → ltb y.instrument n ≡ false
    not_below y s t k = at (ltb y.instrument x.instrument) refl k
      where
        at : (b : Bool) → ltb y.instrument x.instrument ≡ b → cond b true (cond (ltb x.instrument y.instrument) false (precedes_by_side s t y.order x.order)) ≡ false → ltb y.instrument n ≡ false
        at true e f = absurd (false≢true (sym f))
        at false e f = le-ltb y.instrument n (omega (arith, ltb-false y.instrument x.instrument e))

-- Behind an offer stands no bid of its instrument.
no_bids_behind : (n : ℕ) (x : Entry) (xs : List Entry) → x.side ≡ Offer → n ≡ x.instrument → AllByRecursion (λ y. precedes y x ≡ false) xs → filter (stands_at Bid n) xs ≡ []
no_bids_behind n x xs offer here h = none_kept (stands_at Bid n) xs (All-weaker (λ y. precedes y x ≡ false) (λ y. stands_at Bid n y ≡ false) (λ y k. at y y.side x.side offer k) xs h)
  where
    at : (y : Entry) (u s : Side) → s ≡ Offer → cond (ltb y.instrument x.instrument) true (cond (ltb x.instrument y.instrument) false (precedes_by_side u s y.order x.order)) ≡ false → (same_side Bid u && eqb n y.instrument) ≡ false
    at y Bid Offer o k = grind (arith, nat_tests)
    at y Bid Bid o k = absurd (let z : ◌≡◌ {A = ℕ} 0 1 = cc in omega arith)
    at y Offer s o k = refl

split_instrument : (n : ℕ) (xs : List Entry) → Ordered xs → filter (below (suc n)) xs ≡ filter (below n) xs ++ (filter (stands_at Bid n) xs ++ filter (stands_at Offer n) xs)
split_instrument n [] h = refl
split_instrument n (x ∷ xs) h = go (cases_order x.instrument n) x.side refl (split_instrument n xs h.1)
  where
    all : List Entry
    all = filter (below (suc n)) xs

    front : List Entry
    front = filter (below n) xs

    bids : List Entry
    bids = filter (stands_at Bid n) xs

    offers : List Entry
    offers = filter (stands_at Offer n) xs

    elsewhere : (s : Side) → (x.instrument ≡ n → ⊥) → stands_at s n x ≡ false
    elsewhere s ne = and_right (same_side s x.side) (eqb n x.instrument) (ne_eqb n x.instrument (λ e. ne (sym e)))

    go : (x.instrument ≡ n) ⊎ ((x.instrument < n) ⊎ (n < x.instrument)) → (s : Side) → x.side ≡ s → filter (below (suc n)) xs ≡ filter (below n) xs ++ (filter (stands_at Bid n) xs ++ filter (stands_at Offer n) xs) → filter (below (suc n)) (x ∷ xs) ≡ filter (below n) (x ∷ xs) ++ (filter (stands_at Bid n) (x ∷ xs) ++ filter (stands_at Offer n) (x ∷ xs))
    go (inl e) Bid side ih =
        let none = none_below n x xs (omega arith) h.0 in
        by_tests x all front bids offers _ _ _ _ true false true false (lt-ltb x.instrument (suc n) (omega arith)) (le-ltb x.instrument n (omega arith)) (λ k. same_side Bid (side k) && eq-eqb n x.instrument (sym e) k) (λ k. same_side Offer (side k) && eqb n x.instrument)
        (ap (λ z. x ∷ z) (ih ∙ ap (λ z. z ++ (bids ++ offers)) none) ∙ sym (ap (λ z. z ++ ((x ∷ bids) ++ offers)) none))
    go (inl e) Offer side ih =
        let none = none_below n x xs (omega arith) h.0 in
        let no_bids = no_bids_behind n x xs side (sym e) h.0 in
        by_tests x all front bids offers _ _ _ _ true false false true (lt-ltb x.instrument (suc n) (omega arith)) (le-ltb x.instrument n (omega arith)) (λ k. same_side Bid (side k) && eqb n x.instrument) (λ k. same_side Offer (side k) && eq-eqb n x.instrument (sym e) k)
        (ap (λ z. x ∷ z) (ih ∙ (λ k. none k ++ (no_bids k ++ offers))) ∙ sym (λ k. none k ++ (no_bids k ++ (x ∷ offers))))
    go (inr (inl l)) s side ih = by_tests x all front bids offers _ _ _ _ true true false false (lt-ltb x.instrument (suc n) (omega arith)) (lt-ltb x.instrument n l) (elsewhere Bid (λ e. omega arith)) (elsewhere Offer (λ e. omega arith)) (ap (λ z. x ∷ z) ih)
    go (inr (inr l)) s side ih = by_tests x all front bids offers _ _ _ _ false false false false (le-ltb x.instrument (suc n) (omega arith)) (le-ltb x.instrument n (omega arith)) (elsewhere Bid (λ e. omega arith)) (elsewhere Offer (λ e. omega arith)) ih

joined_instruments : (n : ℕ) (xs : List Entry) → Ordered xs → joined_below n (λ i. rows_in xs Bid i ++ rows_in xs Offer i) ≡ map order_of (filter (below n) xs)
unfolding joined_below
joined_instruments zero xs h = sym (ap (λ z. map order_of z) (none_kept (below 0) xs (nothing xs)))
  where
    nothing : (ys : List Entry) → AllByRecursion (λ y. below 0 y ≡ false) ys
    nothing [] = tt
    nothing (y ∷ ys) = (le-ltb y.instrument 0 (omega arith), nothing ys)
joined_instruments (suc n) xs h =
    (let both = sym (map-append order_of (filter (stands_at Bid n) xs) (filter (stands_at Offer n) xs)) in λ k. joined_instruments n xs h k ++ both k)
    ∙ sym (map-append order_of (filter (below n) xs) (filter (stands_at Bid n) xs ++ filter (stands_at Offer n) xs))
    ∙ ap (λ z. map order_of z) (sym (split_instrument n xs h))

-- The entries are all pending orders, instrument by instrument, bids before offers.
pub pending_entries : (xs : List Entry) → Stands xs → pending_orders (rows_in xs) ≡ map order_of xs
pending_entries xs h = joined_instruments 16 xs h.ordered ∙ ap (λ z. map order_of z) (all_kept (below 16) xs (All-weaker (λ (x : Entry). x.instrument < 16) (λ x. below 16 x ≡ true) (λ x l. lt-ltb x.instrument 16 l) xs h.in_range))

-- ---- the first of a row

-- An entry at a place, with none of its row before it.
module _ (side : Side) (i : ℕ) (before : List Entry) (e : Entry) (behind : List Entry) (there : stands_at side i e ≡ true) (none : filter (stands_at side i) before ≡ []) where
  abbrev others : List Order
  others = map order_of (filter (stands_at side i) behind)

  row_from : (new : List Entry) → rows_in (before ++ new) side i ≡ map order_of (filter (stands_at side i) new)
  row_from new = ap (λ z. map order_of z) (filter-append (stands_at side i) before new ∙ ap (λ z. z ++ filter (stands_at side i) new) none)

  pub row_at_first : rows_in (before ++ (e ∷ behind)) side i ≡ e.order ∷ others
  row_at_first = row_from (e ∷ behind) ∙ ap (λ z. map order_of z) (cond-true (stands_at side i e) (e ∷ filter (stands_at side i) behind) _ there)

  -- Elsewhere the entry is not seen, whatever its lots.
  elsewhere_same : (t : Side) (j : ℕ) → stands_at t j e ≡ false → rows_in (before ++ behind) t j ≡ rows_in (before ++ (e ∷ behind)) t j
  elsewhere_same t j ne = ap (λ z. map order_of z) (filter-append (stands_at t j) before behind ∙ sym (filter-append (stands_at t j) before (e ∷ behind) ∙ ap (λ z. filter (stands_at t j) before ++ z) (cond-false (stands_at t j e) (e ∷ filter (stands_at t j) behind) _ ne)))

  elsewhere_lots : (lots : ℕ) (t : Side) (j : ℕ) → stands_at t j e ≡ false → rows_in (before ++ (entry_with_lots e lots ∷ behind)) t j ≡ rows_in (before ++ (e ∷ behind)) t j
  elsewhere_lots lots t j ne = ap (λ z. map order_of z) (filter-append (stands_at t j) before (entry_with_lots e lots ∷ behind) ∙ ap (λ z. filter (stands_at t j) before ++ z) (cond-false (stands_at t j e) (entry_with_lots e lots ∷ filter (stands_at t j) behind) _ ne ∙ sym (cond-false (stands_at t j e) (e ∷ filter (stands_at t j) behind) _ ne)) ∙ sym (filter-append (stands_at t j) before (e ∷ behind)))

  its_place : (same_side side e.side ≡ true) × (eqb i e.instrument ≡ true)
  its_place = and_parts (same_side side e.side) (eqb i e.instrument) there

  not_its_place : (t : Side) (j : ℕ) → (same_side side t && eqb i j) ≡ false → stands_at t j e ≡ false
  not_its_place t j ne = not_there e t j (subst (λ z. (same_side z t && eqb e.instrument j) ≡ false) (sides side e.side its_place.0) (subst (λ z. (same_side side t && eqb z j) ≡ false) (eqb-true i e.instrument its_place.1) ne))
    where
      sides : (s u : Side) → same_side s u ≡ true → s ≡ u
      sides Bid Bid h = refl
      sides Bid Offer h = absurd (false≢true h)
      sides Offer Bid h = absurd (false≢true h)
      sides Offer Offer h = refl

  pub rows_part_filled : (lots : ℕ) → lots < e.order.lots → rows_in (before ++ (entry_with_lots e (e.order.lots - lots) ∷ behind)) ≡ put_row (rows_in (before ++ (e ∷ behind))) side i (first_filled lots (rows_in (before ++ (e ∷ behind)) side i))
  rows_part_filled lots l =
      put_row_is (rows_in (before ++ (entry_with_lots e (e.order.lots - lots) ∷ behind))) (rows_in (before ++ (e ∷ behind))) side i _
      (row_from (entry_with_lots e (e.order.lots - lots) ∷ behind) ∙ ap (λ z. map order_of z) (cond-true (stands_at side i e) (entry_with_lots e (e.order.lots - lots) ∷ filter (stands_at side i) behind) _ there) ∙ sym (ap (first_filled lots) row_at_first ∙ cond-true (ltb lots e.order.lots) _ others (lt-ltb lots e.order.lots l)))
      (λ t j ne. elsewhere_lots (e.order.lots - lots) t j (not_its_place t j ne))

  pub rows_whole_filled : (lots : ℕ) → e.order.lots ≤ lots → rows_in (before ++ behind) ≡ put_row (rows_in (before ++ (e ∷ behind))) side i (first_filled lots (rows_in (before ++ (e ∷ behind)) side i))
  rows_whole_filled lots l =
      put_row_is (rows_in (before ++ behind)) (rows_in (before ++ (e ∷ behind))) side i _
      (row_from behind ∙ sym (ap (first_filled lots) row_at_first ∙ cond-false (ltb lots e.order.lots) _ others (le-ltb lots e.order.lots l)))
      (λ t j ne. elsewhere_same t j (not_its_place t j ne))

-- An empty row stays empty.
pub rows_none_filled : (xs : List Entry) (side : Side) (i lots : ℕ) → filter (stands_at side i) xs ≡ [] → rows_in xs ≡ put_row (rows_in xs) side i (first_filled lots (rows_in xs side i))
rows_none_filled xs side i lots none =
    let empty : rows_in xs side i ≡ [] = ap (λ z. map order_of z) none in
    put_row_is (rows_in xs) (rows_in xs) side i _ (empty ∙ sym (ap (first_filled lots) empty)) (λ _ _ _. refl)

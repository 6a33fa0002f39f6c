-- What one turn of each loop over the entries adds.
use Rattle.std.proofs.Common.{◌≡◌, ℕ, ◌+◌, ◌-◌, ◌<◌, ◌≤◌, Bool, true, false, cond, not, ◌&&◌, ◌||◌, eqb, List, [], ◌∷◌, ◌++◌, map, reverse, Option, length, get_or, take, drop, set, sum_by, filter, sym, refl, ap, ◌∙◌, subst, arith}
use Rattle.std.specs.List.{list_any, fold}
use Rattle.std.specs.Iterator.Runs.{WholeRun, EachRunFrom}
use Rattle.std.proofs.lemmas.List.Elements.{filter-append, filter_more}
use Rattle.std.proofs.lemmas.List.{map-append, map_more, length-map, drop_more, get_or-map, get_or-reverse, drop_all, append-nil, length-append, take-append-drop}
use Rattle.std.proofs.lemmas.List.Sums.{sum_by-cons}
use Rattle.std.proofs.lemmas.Bool.{cond-true, cond-false, ne_eqb, not_from_false}
use Rattle.terms.specs.declared.Order.{Order}
use Rattle.terms.specs.declared.Side.{Side}
use Rattle.terms.specs.declared.Side.TheVariants.{Bid, Offer}
use Rattle.terms.specs.Sides.{same_side}
use Rattle.row.specs.Rows.{inserted}
use Rattle.market.specs.declared.events.Event.{Event}
use Rattle.market.specs.declared.events.Reason.{Reason}
use Rattle.market.specs.declared.orders.Listed.{Listed}
use Rattle.market.specs.Lists.{Wrote}
use Rattle.market.specs.Markets.{listed, sum_over, is_of, lots_of, pending_orders}
use Rattle.market.specs.Cancels.{cancelled, by_number, has_lower_number}
use Rattle.market.proofs.Lists.{wrote_one, wrote_both}
use Rattle.market.proofs.Weights.{sum_over_pending}
use Rattle.book.specs.declared.books.Book.{Book}
use Rattle.book.specs.declared.entry.Entry.{Entry}
use Rattle.book.specs.declared.entry.Leaving.{Leaving}
use Rattle.book.specs.declared.part.Part.{Part}
use Rattle.book.specs.declared.part.Part.TheVariants.{Whole, Instrument, Row}
use Rattle.book.specs.Parts.{counted_lots, part_lots}
use Rattle.book.specs.Reads.{order_of, leaving_order, stands_at, rows_in, rows_of, entries_of}
use Rattle.book.proofs.Places.{book_pending}

-- ---- lots of a part

abbrev own_lots : ℕ → Order → ℕ
own_lots m order = cond (is_of m order) order.lots 0

whole_lots : (m : ℕ) (xs : List Entry) → sum_by (counted_lots Whole m) xs ≡ lots_of m (map order_of xs)
unfolding sum_over
whole_lots m [] = refl
whole_lots m (x ∷ xs) = sum_by-cons (counted_lots Whole m) x xs ∙ ap (λ n. own_lots m (order_of x) + n) (whole_lots m xs)

row_lots : (side : Side) (i m : ℕ) (xs : List Entry) → sum_by (counted_lots (Row side i) m) xs ≡ lots_of m (rows_in xs side i)
unfolding sum_over
row_lots side i m [] = refl
row_lots side i m (x ∷ xs) = sum_by-cons (counted_lots (Row side i) m) x xs ∙ go (stands_at side i x) (row_lots side i m xs)
  where
    go : (b : Bool) → sum_by (counted_lots (Row side i) m) xs ≡ lots_of m (rows_in xs side i) → cond b (own_lots m (order_of x)) 0 + sum_by (counted_lots (Row side i) m) xs ≡ lots_of m (map order_of (cond b (x ∷ filter (stands_at side i) xs) (filter (stands_at side i) xs)))
    go true others = ap (λ n. own_lots m (order_of x) + n) others
    go false others = omega arith

instrument_lots : (i m : ℕ) (xs : List Entry) → sum_by (counted_lots (Instrument i) m) xs ≡ sum_by (counted_lots (Row Bid i) m) xs + sum_by (counted_lots (Row Offer i) m) xs
instrument_lots i m [] = refl
instrument_lots i m (x ∷ xs) =
    let all = sum_by-cons (counted_lots (Instrument i) m) x xs in
    let bids = sum_by-cons (counted_lots (Row Bid i) m) x xs in
    let offers = sum_by-cons (counted_lots (Row Offer i) m) x xs in
    omega (arith, instrument_lots i m xs, one x.side (eqb i x.instrument))
  where
    one : (s : Side) (b : Bool) → cond b (own_lots m (order_of x)) 0 ≡ cond (same_side Bid s && b) (own_lots m (order_of x)) 0 + cond (same_side Offer s && b) (own_lots m (order_of x)) 0
    one Bid true = omega arith
    one Bid false = omega arith
    one Offer true = omega arith
    one Offer false = omega arith

pub part_lots_are : (book : Book) (part : Part) (m : ℕ) → sum_by (counted_lots part m) (entries_of book) ≡ part_lots part (rows_of book) m
part_lots_are book Whole m = whole_lots m (entries_of book) ∙ ap (lots_of m) (sym (book_pending book)) ∙ sum_over_pending (own_lots m) (rows_of book)
part_lots_are book (Instrument i) m = instrument_lots i m (entries_of book) ∙ (λ k. row_lots Bid i m (entries_of book) k + row_lots Offer i m (entries_of book) k)
part_lots_are book (Row side i) m = row_lots side i m (entries_of book)

-- ---- an order that is picked

picked_test : (n : ℕ) → 0 < n → true ≡ not (eqb n 0)
picked_test n l = sym (not_from_false (eqb n 0) (ne_eqb n 0 (λ e. omega arith)))

any_picked : (p : Order → Bool) (xs : List Entry) → list_any (λ e. p (order_of e)) xs ≡ not (eqb (length (filter p (map order_of xs))) 0)
any_picked p [] = refl
any_picked p (x ∷ xs) = go (p (order_of x)) (any_picked p xs)
  where
    go : (b : Bool) → list_any (λ e. p (order_of e)) xs ≡ not (eqb (length (filter p (map order_of xs))) 0) → (b || list_any (λ e. p (order_of e)) xs) ≡ not (eqb (length (cond b (order_of x ∷ filter p (map order_of xs)) (filter p (map order_of xs)))) 0)
    go true others = picked_test _ (omega arith)
    go false others = others

pub any_pending : (p : Order → Bool) (book : Book) → not (eqb (length (filter p (pending_orders (rows_of book)))) 0) ≡ list_any (λ e. p (order_of e)) book.entries.items
any_pending p book = ap (λ z. not (eqb (length (filter p z)) 0)) (book_pending book) ∙ sym (any_picked p (entries_of book))

-- ---- orders that leave, by number

map_inserted : (e : Leaving) (xs : List Leaving) → map leaving_order (inserted (λ a b. has_lower_number (leaving_order a) (leaving_order b)) e xs) ≡ inserted has_lower_number (leaving_order e) (map leaving_order xs)
map_inserted e [] = refl
map_inserted e (x ∷ xs) = go (has_lower_number (leaving_order e) (leaving_order x)) (map_inserted e xs)
  where
    go : (b : Bool) → map leaving_order (inserted (λ a b. has_lower_number (leaving_order a) (leaving_order b)) e xs) ≡ inserted has_lower_number (leaving_order e) (map leaving_order xs) → map leaving_order (cond b (e ∷ (x ∷ xs)) (x ∷ inserted (λ a b. has_lower_number (leaving_order a) (leaving_order b)) e xs)) ≡ cond b (leaving_order e ∷ (leaving_order x ∷ map leaving_order xs)) (leaving_order x ∷ inserted has_lower_number (leaving_order e) (map leaving_order xs))
    go true others = refl
    go false others = ap (λ ys. leaving_order x ∷ ys) others

-- One more of the orders, from the last to the first.
module _ (p : Order → Bool) (xs : List Entry) (i : ℕ) (x : Entry) (l : i < length xs) (is : x ≡ get_or (reverse xs) i x) where
  next : drop (length xs - (i + 1)) (map order_of xs) ≡ order_of x ∷ drop (length xs - i) (map order_of xs)
  next =
      let long = length-map xs order_of in
      let same : length xs - (i + 1) ≡ length xs - 1 - i = omega arith in
      let after : length xs - 1 - i + 1 ≡ length xs - i = omega arith in
      ap (λ k. drop k (map order_of xs)) same
      ∙ drop_more (map order_of xs) (length xs - 1 - i) (order_of x) (omega arith)
      ∙ (let here = get_or-map order_of xs (length xs - 1 - i) x (order_of x) (omega arith) ∙ ap order_of (sym (get_or-reverse xs i x l) ∙ sym is) in λ k. here k ∷ drop (after k) (map order_of xs))

  pub not_collected : (all : List Order) → all ≡ by_number (filter p (drop (length xs - i) (map order_of xs))) → p (order_of x) ≡ false → all ≡ by_number (filter p (drop (length xs - (i + 1)) (map order_of xs)))
  not_collected all before h = before ∙ sym (ap (λ z. by_number (filter p z)) next ∙ ap by_number (cond-false (p (order_of x)) _ _ h))

  pub collected : (held after : List Leaving) → map leaving_order held ≡ by_number (filter p (drop (length xs - i) (map order_of xs))) → p (order_of x) ≡ true → after ≡ inserted (λ a b. has_lower_number (leaving_order a) (leaving_order b)) (record { 0 = order_of x }) held → map leaving_order after ≡ by_number (filter p (drop (length xs - (i + 1)) (map order_of xs)))
  unfolding by_number
  collected held after before h put =
      ap (λ z. map leaving_order z) put
      ∙ map_inserted (record { 0 = order_of x }) held
      ∙ ap (inserted has_lower_number (order_of x)) before
      ∙ sym (ap (λ z. by_number (filter p z)) next ∙ ap by_number (cond-true (p (order_of x)) _ _ h))

pub none_collected : (p : Order → Bool) (xs : List Order) (n : ℕ) → length xs ≤ n → [] ≡ by_number (filter p (drop n xs))
unfolding by_number
none_collected p xs n l = sym (ap (λ z. by_number (filter p z)) (drop_all n xs l))

-- ---- what is written

-- One more event told.
pub tell_more : (reason : Reason) (read taken : List Leaving) (old events : List Event) (from i : ℕ) (d : Leaving) (event : Event) → read ≡ taken → i < length read → from + i < length events → event ≡ cancelled reason (leaving_order (get_or read i d)) → Wrote old events from (from + i) (map (cancelled reason) (map leaving_order (take i taken))) → Wrote old (set events (from + i) event) from (from + (i + 1)) (map (cancelled reason) (map leaving_order (take (i + 1) taken)))
tell_more reason read taken old events from i d event same l room is w =
    subst (λ to. Wrote old (set events (from + i) event) from to (map (cancelled reason) (map leaving_order (take (i + 1) taken)))) (omega arith)
    (subst (λ items. Wrote old (set events (from + i) event) from (from + i + 1) items) (sym more)
    (wrote_both old events (set events (from + i) event) from (from + i) (from + i + 1) (map (cancelled reason) (map leaving_order (take i taken))) (event ∷ []) w (wrote_one events (from + i) event room)))
  where
    more : map (cancelled reason) (map leaving_order (take (i + 1) taken)) ≡ map (cancelled reason) (map leaving_order (take i taken)) ++ (event ∷ [])
    more =
        ap (map (cancelled reason)) (map_more leaving_order taken i d (subst (λ ys. i < length ys) same l))
        ∙ map-append (cancelled reason) (map leaving_order (take i taken)) (leaving_order (get_or taken i d) ∷ [])
        ∙ ap (λ e. map (cancelled reason) (map leaving_order (take i taken)) ++ (e ∷ [])) (sym (is ∙ ap (λ ys. cancelled reason (leaving_order (get_or ys i d))) same))

-- One more order listed, or passed over.
module _ (side : Side) (i : ℕ) (xs : List Entry) (k : ℕ) (d : Entry) (l : k < length xs) where
  rows_more : rows_in (take (k + 1) xs) side i ≡ rows_in (take k xs) side i ++ map order_of (cond (stands_at side i (get_or xs k d)) (get_or xs k d ∷ []) [])
  rows_more = ap (λ z. map order_of z) (filter_more (stands_at side i) xs k d l) ∙ map-append order_of (filter (stands_at side i) (take k xs)) (cond (stands_at side i (get_or xs k d)) (get_or xs k d ∷ []) [])

  pub not_listed : stands_at side i (get_or xs k d) ≡ false → rows_in (take (k + 1) xs) side i ≡ rows_in (take k xs) side i
  not_listed h = rows_more ∙ ap (λ z. rows_in (take k xs) side i ++ map order_of z) (cond-false (stands_at side i (get_or xs k d)) (get_or xs k d ∷ []) [] h) ∙ append-nil (rows_in (take k xs) side i)

  pub listed_row : stands_at side i (get_or xs k d) ≡ true → rows_in (take (k + 1) xs) side i ≡ rows_in (take k xs) side i ++ (order_of (get_or xs k d) ∷ [])
  listed_row h = rows_more ∙ ap (λ z. rows_in (take k xs) side i ++ map order_of z) (cond-true (stands_at side i (get_or xs k d)) (get_or xs k d ∷ []) [] h)

  pub list_more : (old list : List Listed) (from place : ℕ) (item : Listed) → place < length list → stands_at side i (get_or xs k d) ≡ true → item ≡ listed side (order_of (get_or xs k d)) → Wrote old list from place (map (listed side) (rows_in (take k xs) side i)) → Wrote old (set list place item) from (place + 1) (map (listed side) (rows_in (take (k + 1) xs) side i))
  list_more old list from place item room h is w =
      subst (λ items. Wrote old (set list place item) from (place + 1) items)
      (sym (ap (λ z. map (listed side) z) (listed_row h) ∙ map-append (listed side) (rows_in (take k xs) side i) (order_of (get_or xs k d) ∷ []) ∙ ap (λ e. map (listed side) (rows_in (take k xs) side i) ++ (e ∷ [])) (sym is)))
      (wrote_both old list (set list place item) from place (place + 1) (map (listed side) (rows_in (take k xs) side i)) (item ∷ []) w (wrote_one list place item room))

-- A row of the first entries is no longer than one of all.
pub rows_length : (side : Side) (i : ℕ) (xs : List Entry) (k : ℕ) → length (rows_in (take k xs) side i) ≤ length (rows_in xs side i)
rows_length side i xs k =
    let whole = ap (λ z. length (rows_in z side i)) (sym (take-append-drop k xs)) in
    let split = ap length (ap (λ z. map order_of z) (filter-append (stands_at side i) (take k xs) (drop k xs)) ∙ map-append order_of (filter (stands_at side i) (take k xs)) (filter (stands_at side i) (drop k xs))) in
    let sum = length-append (rows_in (take k xs) side i) (rows_in (drop k xs) side i) in
    omega arith

sides_length : (i : ℕ) (xs : List Entry) → length (filter (stands_at Bid i) xs) + length (filter (stands_at Offer i) xs) ≤ length xs
sides_length i [] = omega arith
sides_length i (x ∷ xs) = go x.side (eqb i x.instrument) (sides_length i xs)
  where
    go : (s : Side) (b : Bool) → length (filter (stands_at Bid i) xs) + length (filter (stands_at Offer i) xs) ≤ length xs → length (cond (same_side Bid s && b) (x ∷ filter (stands_at Bid i) xs) (filter (stands_at Bid i) xs)) + length (cond (same_side Offer s && b) (x ∷ filter (stands_at Offer i) xs) (filter (stands_at Offer i) xs)) ≤ length (x ∷ xs)
    go Bid true others = omega arith
    go Bid false others = omega arith
    go Offer true others = omega arith
    go Offer false others = omega arith

-- The two rows of an instrument are no more than all entries.
pub both_rows : (xs : List Entry) (i : ℕ) → length (rows_in xs Bid i) + length (rows_in xs Offer i) ≤ length xs
both_rows xs i =
    let bids = length-map (filter (stands_at Bid i) xs) order_of in
    let offers = length-map (filter (stands_at Offer i) xs) order_of in
    omega (arith, sides_length i xs)

-- A sum of what an iterator gives, where each of its runs stays below a bound.
pub sum_below : {S : Type 0} {steps : S → Option ℕ → S → Type 0} {s : S} (r top : ℕ) → WholeRun steps s (λ p. r ≡ fold (λ a x. a + x) 0 p.items) → EachRunFrom steps s (λ p. fold (λ a x. a + x) 0 p.items < top) → r < top
sum_below r top run each = let below = each run.0 run.0.seen run.1 in omega (arith, run.3)

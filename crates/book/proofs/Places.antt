-- The book's entries, the first of a row among them, and what a fill makes of them.
use Rattle.std.proofs.Common.{◌≡◌, ℕ, zero, suc, ◌+◌, ◌-◌, ◌<◌, ◌≤◌, Bool, true, false, cond, not, ltb, leb, List, [], ◌∷◌, ◌++◌, map, length, get_or, take, drop, set, Some, None, filter, sym, refl, ap, ◌∙◌, add-one, arith, length-append, length-drop, length-take}
use lib.ListN.{length-map}
use Rattle.std.specs.List.{position, position_or_len, find}
use Rattle.std.proofs.lemmas.Bool.Decides.{nat_tests}
use Rattle.std.specs.Option.{option_map}
use Rattle.std.proofs.lemmas.List.{take_at, take_all, take-append-drop, set_split, drop_more}
use Rattle.std.proofs.lemmas.List.Elements.{filter_more}
use Rattle.std.proofs.lemmas.List.Quantifiers.{position-Some}
use Rattle.std.proofs.lemmas.Bool.{cond-true, cond-false, lt-ltb, le-leb, and_from, cond_both, ltb-true, ltb-false}
use Rattle.terms.specs.declared.Side.{Side}
use Rattle.row.specs.Rows.{inserted, without, after_remove}
use Rattle.market.specs.Markets.{put_row, pending_orders}
use Rattle.book.specs.declared.books.Book.{Book}
use Rattle.book.specs.declared.entry.Entry.{Entry}
use Rattle.book.specs.Reads.{order_of, entries_of, rows_in, rows_of, stands_at, first_of, first_filled, blank_entry, entry_with_lots, filled_at}
use Rattle.book.proofs.Standing.{Stands, stands_says}
use Rattle.book.proofs.Rows.{pending_entries, rows_part_filled, rows_whole_filled}

pub length_inserted : {X : Type 0} (before : X → X → Bool) (e : X) (xs : List X) → length (inserted before e xs) ≡ length xs + 1
length_inserted before e [] = refl
length_inserted before e (x ∷ xs) = cond_both (before e x) (e ∷ (x ∷ xs)) (x ∷ inserted before e xs) (λ z. length z ≡ length (x ∷ xs) + 1) (λ _. omega arith) (λ _. omega (arith, length_inserted before e xs))

length_without : {X : Type 0} (place : ℕ) (xs : List X) → place < length xs → length (without place xs) ≡ length xs - 1
length_without place xs l = let a = length-append (take place xs) (drop (place + 1) xs) in let b = length-take place xs in let c = length-drop (place + 1) xs in omega arith

-- What a remove of the row leaves in front of the last place.
pub take_removed : {X : Type 0} (place : ℕ) (xs : List X) → place < length xs → take (length xs - 1) (after_remove (length xs) place xs) ≡ without place xs
take_removed place xs l =
    let less = length_without place xs l in
    ap (take (length xs - 1)) (cond-true _ _ xs (and_from (leb (length xs) (length xs)) (ltb place (length xs)) (le-leb (length xs) (length xs) (omega arith)) (lt-ltb place (length xs) l)) ∙ ap (λ ys. without place ys ++ drop (length xs - 1) xs) (take_all (length xs) xs (omega arith)))
    ∙ take_at (without place xs) (drop (length xs - 1) xs) (length xs - 1) (omega arith)

-- A list around one of its places.
around : {X : Type 0} (place : ℕ) (xs : List X) (d : X) → place < length xs → xs ≡ take place xs ++ (get_or xs place d ∷ drop (place + 1) xs)
around place xs d l = sym (take-append-drop place xs) ∙ ap (λ z. take place xs ++ z) (drop_more xs place d l)

set_around : {X : Type 0} (place : ℕ) (xs : List X) (x : X) → place < length xs → set xs place x ≡ take place xs ++ (x ∷ drop (place + 1) xs)
set_around place xs x l = set_split xs place x l ∙ ap (λ n. take place xs ++ (x ∷ drop n xs)) (sym (add-one place))

-- ---- a whole book

pub book_stands : (book : Book) → Stands (entries_of book)
book_stands book = stands_says (entries_of book) book.standing

pub book_pending : (book : Book) → pending_orders (rows_of book) ≡ map order_of (entries_of book)
book_pending book = pending_entries (entries_of book) (book_stands book)

pub count_is : (book : Book) → length book.entries.items ≡ length (pending_orders (rows_of book))
count_is book = sym (ap length (book_pending book) ∙ length-map (entries_of book) order_of)

-- ---- the first of a row

none_below : {X : Type 0} (p : X → Bool) (xs : List X) (i : ℕ) (d : X) → i ≤ length xs → ((k : ℕ) → k < i → p (get_or xs k d) ≡ false) → filter p (take i xs) ≡ []
none_below p xs zero d l h = refl
none_below p xs (suc i) d l h =
    ap (λ n. filter p (take n xs)) (sym (add-one i)) ∙ filter_more p xs i d (omega arith)
    ∙ (let before = none_below p xs i d (omega arith) (λ k m. h k (omega arith)) in let here = cond-false (p (get_or xs i d)) (get_or xs i d ∷ []) [] (h i (omega arith)) in λ k. before k ++ here k)

-- A place where an entry passes, with none before.
pub record First (p : Entry → Bool) (xs : List Entry) (place : ℕ) : Type 0 where
  pub within : place < length xs
  pub there : p (get_or xs place blank_entry) ≡ true
  pub none_before : filter p (take place xs) ≡ []

pub first_from : (p : Entry → Bool) (xs : List Entry) (place : ℕ) → position p xs ≡ Some place → First p xs place
first_from p xs place is =
    let found = position-Some p xs place blank_entry is in
    record { within = found.0; there = found.1; none_before = none_below p xs place blank_entry (omega arith) found.2 }

none_past : (p : Entry → Bool) (xs : List Entry) → length xs ≤ position_or_len p xs → filter p xs ≡ []
none_past p [] l = refl
none_past p (x ∷ xs) l = go (p x) l (none_past p xs)
  where
    go : (b : Bool) → length (x ∷ xs) ≤ cond (not b) (1 + position_or_len p xs) 0 → (length xs ≤ position_or_len p xs → filter p xs ≡ []) → cond b (x ∷ filter p xs) (filter p xs) ≡ []
    go true l others = absurd (omega arith)
    go false l others = others (omega arith)

pub none_from : (p : Entry → Bool) (xs : List Entry) → position p xs ≡ None → filter p xs ≡ []
none_from p xs is = none_past p xs (grind (arith, nat_tests))

pub first_found : (p : Entry → Bool) (xs : List Entry) → option_map order_of (find p xs) ≡ first_of (map order_of (filter p xs))
first_found p [] = refl
first_found p (x ∷ xs) = go (p x) (first_found p xs)
  where
    go : (b : Bool) → option_map order_of (find p xs) ≡ first_of (map order_of (filter p xs)) → option_map order_of (cond b (Some x) (find p xs)) ≡ first_of (map order_of (cond b (x ∷ filter p xs) (filter p xs)))
    go true others = refl
    go false others = others

-- ---- fills

-- The entries around the first of a row.
module _ (side : Side) (i : ℕ) (xs : List Entry) (place : ℕ) (first : First (stands_at side i) xs place) where
  split : xs ≡ take place xs ++ (get_or xs place blank_entry ∷ drop (place + 1) xs)
  split = around place xs blank_entry first.within

  pub rows_filled_at : (lots : ℕ) → rows_in (filled_at place lots xs) ≡ put_row (rows_in xs) side i (first_filled lots (rows_in xs side i))
  rows_filled_at lots =
      cond_both (ltb lots (get_or xs place blank_entry).order.lots) (set xs place (entry_with_lots (get_or xs place blank_entry) ((get_or xs place blank_entry).order.lots - lots))) (without place xs) (λ z. rows_in z ≡ put_row (rows_in xs) side i (first_filled lots (rows_in xs side i)))
      (λ e. ap rows_in (set_around place xs (entry_with_lots (get_or xs place blank_entry) ((get_or xs place blank_entry).order.lots - lots)) first.within) ∙ rows_part_filled side i (take place xs) (get_or xs place blank_entry) (drop (place + 1) xs) first.there first.none_before lots (ltb-true lots (get_or xs place blank_entry).order.lots e) ∙ back)
      (λ e. rows_whole_filled side i (take place xs) (get_or xs place blank_entry) (drop (place + 1) xs) first.there first.none_before lots (ltb-false lots (get_or xs place blank_entry).order.lots e) ∙ back)
    where
      back : put_row (rows_in (take place xs ++ (get_or xs place blank_entry ∷ drop (place + 1) xs))) side i (first_filled lots (rows_in (take place xs ++ (get_or xs place blank_entry ∷ drop (place + 1) xs)) side i)) ≡ put_row (rows_in xs) side i (first_filled lots (rows_in xs side i))
      back = ap (λ z. put_row (rows_in z) side i (first_filled lots (rows_in z side i))) (sym split)

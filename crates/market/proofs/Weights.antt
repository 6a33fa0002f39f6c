-- Sums over orders: what cancels, inserts and fills do to the sum of any number of each order. Lots, counts and numbers are all such sums.
use Rattle.std.proofs.Common.{◌≡◌, ℕ, zero, suc, ◌+◌, ◌<◌, Bool, true, false, cond, not, List, [], ◌∷◌, ◌++◌, length, filter, sym, refl, ap, ◌∙◌, arith}
use Rattle.std.proofs.lemmas.List.Elements.{filter-append}
use Rattle.std.proofs.lemmas.Bool.{cond_both}
use Rattle.terms.specs.declared.Order.{Order}
use Rattle.terms.specs.declared.Side.{Side}
use Rattle.terms.specs.declared.Side.TheVariants.{Bid, Offer}
use Rattle.terms.specs.Tables.{sum_below}
use Rattle.terms.proofs.Tables.{put_here, put_there}
use Rattle.row.specs.Rows.{inserted}
use Rattle.market.specs.Markets.{Rows, put_row, sum_over, joined_below, pending_orders}
use Rattle.market.specs.Cancels.{by_number, has_lower_number, rows_without, picked_orders}
use Rattle.market.proofs.Sums.{sum_same, sum_add, sum_changed}

-- ---- one list

pub sum_over_append : (w : Order → ℕ) (xs ys : List Order) → sum_over w (xs ++ ys) ≡ sum_over w xs + sum_over w ys
unfolding sum_over
sum_over_append w [] ys = omega arith
sum_over_append w (x ∷ xs) ys = omega (arith, sum_over_append w xs ys)

-- What a test picks, and what it leaves.
pub sum_over_split : (w : Order → ℕ) (p : Order → Bool) (xs : List Order) → sum_over w xs ≡ sum_over w (filter (λ o. not (p o)) xs) + sum_over w (filter p xs)
unfolding sum_over
sum_over_split w p [] = refl
sum_over_split w p (x ∷ xs) = go (p x) (sum_over_split w p xs)
  where
    go : (b : Bool) → sum_over w xs ≡ sum_over w (filter (λ o. not (p o)) xs) + sum_over w (filter p xs) → sum_over w (x ∷ xs) ≡ sum_over w (cond (not b) (x ∷ filter (λ o. not (p o)) xs) (filter (λ o. not (p o)) xs)) + sum_over w (cond b (x ∷ filter p xs) (filter p xs))
    go true h = omega arith
    go false h = omega arith

pub sum_over_inserted : (w : Order → ℕ) (before : Order → Order → Bool) (x : Order) (xs : List Order) → sum_over w (inserted before x xs) ≡ w x + sum_over w xs
unfolding sum_over
sum_over_inserted w before x [] = refl
sum_over_inserted w before x (y ∷ ys) = cond_both (before x y) (x ∷ (y ∷ ys)) (y ∷ inserted before x ys) (λ z. sum_over w z ≡ w x + (w y + sum_over w ys)) (λ _. refl) (λ _. omega (arith, sum_over_inserted w before x ys))

sum_over_by_number : (w : Order → ℕ) (xs : List Order) → sum_over w (by_number xs) ≡ sum_over w xs
unfolding sum_over by_number
sum_over_by_number w [] = refl
sum_over_by_number w (x ∷ xs) = omega (arith, sum_over_inserted w has_lower_number x (by_number xs), sum_over_by_number w xs)

sum_over_joined : (w : Order → ℕ) (n : ℕ) (lists : ℕ → List Order) → sum_over w (joined_below n lists) ≡ sum_below n (λ i. sum_over w (lists i))
unfolding joined_below sum_below sum_over
sum_over_joined w zero lists = refl
sum_over_joined w (suc n) lists = omega (arith, sum_over_append w (joined_below n lists) (lists n), sum_over_joined w n lists)

kept_joined : (p : Order → Bool) (n : ℕ) (lists : ℕ → List Order) → filter p (joined_below n lists) ≡ joined_below n (λ i. filter p (lists i))
unfolding joined_below
kept_joined p zero lists = refl
kept_joined p (suc n) lists = filter-append p (joined_below n lists) (lists n) ∙ ap (λ z. z ++ filter p (lists n)) (kept_joined p n lists)

-- ---- a whole book

abbrev pub row_sum : (Order → ℕ) → Rows → ℕ → ℕ
row_sum w rows i = sum_over w (rows Bid i) + sum_over w (rows Offer i)

abbrev pub book_sum : (Order → ℕ) → Rows → ℕ
book_sum w rows = sum_below 16 (row_sum w rows)

pub sum_over_pending : (w : Order → ℕ) (rows : Rows) → sum_over w (pending_orders rows) ≡ book_sum w rows
sum_over_pending w rows =
    sum_over_joined w 16 (λ i. rows Bid i ++ rows Offer i)
    ∙ sum_same 16 (λ i. sum_over w (rows Bid i ++ rows Offer i)) (row_sum w rows) (λ i. sum_over_append w (rows Bid i) (rows Offer i))

-- The orders that a test picks leave the book.
pub book_sum_without : (w : Order → ℕ) (picked : Order → Bool) (rows : Rows) → book_sum w rows ≡ book_sum w (rows_without picked rows) + sum_over w (picked_orders picked rows)
book_sum_without w picked rows =
    let both : ℕ → List Order = λ i. rows Bid i ++ rows Offer i in
    let sorting = sum_over_by_number w (filter picked (joined_below 16 both)) in
    let picking = ap (sum_over w) (kept_joined picked 16 both) in
    let joining = sum_over_joined w 16 (λ i. filter picked (both i)) in
    let splitting = sum_same 16 (row_sum w rows) (λ i. row_sum w (rows_without picked rows) i + sum_over w (filter picked (both i))) (λ i. at i) in
    let adding = sum_add 16 (row_sum w (rows_without picked rows)) (λ i. sum_over w (filter picked (both i))) in
    omega arith
  where
    at : (i : ℕ) → row_sum w rows i ≡ row_sum w (rows_without picked rows) i + sum_over w (filter picked (rows Bid i ++ rows Offer i))
    at i =
        let parts = ap (sum_over w) (filter-append picked (rows Bid i) (rows Offer i)) in
        omega (arith, sum_over_split w picked (rows Bid i), sum_over_split w picked (rows Offer i), sum_over_append w (filter picked (rows Bid i)) (filter picked (rows Offer i)))

-- Another row on one side of one instrument.
pub book_sum_put : (w : Order → ℕ) (rows : Rows) (side : Side) (i : ℕ) (row : List Order) → i < 16 → book_sum w (put_row rows side i row) + sum_over w (rows side i) ≡ book_sum w rows + sum_over w row
book_sum_put w rows Bid i row l =
    let here = ap (sum_over w) (put_here (rows Bid) i row) in
    let there : (j : ℕ) → (i ≡ j → ⊥) → row_sum w (put_row rows Bid i row) j ≡ row_sum w rows j = λ j ne. ap (λ z. sum_over w z + sum_over w (rows Offer j)) (put_there (rows Bid) i row j ne) in
    omega (arith, sum_changed 16 i (row_sum w rows) (row_sum w (put_row rows Bid i row)) l there)
book_sum_put w rows Offer i row l =
    let here = ap (sum_over w) (put_here (rows Offer) i row) in
    let there : (j : ℕ) → (i ≡ j → ⊥) → row_sum w (put_row rows Offer i row) j ≡ row_sum w rows j = λ j ne. ap (λ z. sum_over w (rows Bid j) + sum_over w z) (put_there (rows Offer) i row j ne) in
    omega (arith, sum_changed 16 i (row_sum w rows) (row_sum w (put_row rows Offer i row)) l there)

-- How many orders there are is the sum of 1 for each.
abbrev pub one : Order → ℕ
one _ = 1

pub sum_over_one : (xs : List Order) → sum_over one xs ≡ length xs
unfolding sum_over
sum_over_one [] = refl
sum_over_one (x ∷ xs) = omega (arith, sum_over_one xs)

pub pending_length : (rows : Rows) → length (pending_orders rows) ≡ book_sum one rows
pending_length rows = sym (sum_over_one (pending_orders rows)) ∙ sum_over_pending one rows

-- What is picked and what is left are all that was pending.
pub pending_without : (picked : Order → Bool) (rows : Rows) → length (pending_orders rows) ≡ length (pending_orders (rows_without picked rows)) + length (picked_orders picked rows)
pending_without picked rows = omega (arith, pending_length rows, pending_length (rows_without picked rows), book_sum_without one picked rows, sum_over_one (picked_orders picked rows))

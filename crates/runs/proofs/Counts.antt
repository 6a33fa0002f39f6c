-- How many: a call's events and the orders pending after it are at most the orders pending before it and one more; and no number stands twice.
use Rattle.std.proofs.Common.{◌≡◌, ℕ, suc, ◌+◌, ◌-◌, ◌<◌, ◌≤◌, min, Bool, cond, eqb, ltb, ◌≢◌, List, [], ◌∷◌, map, length, refl, ap, arith}
use Rattle.std.specs.List.{AllByRecursion}
use Rattle.std.proofs.lemmas.Bool.{cond_both, cond-true, cond-false, eqb-true, ltb-true, ltb-false, eq-eqb, ne_eqb}
use Rattle.terms.specs.declared.Order.{Order}
use Rattle.terms.specs.declared.Side.{Side}
use Rattle.row.specs.Rows.{inserted}
use Rattle.market.specs.Markets.{Rows, put_row, sum_over, pending_orders}
use Rattle.market.specs.Cancels.{rows_without, picked_orders}
use Rattle.market.specs.Meeting.{row_filled}
use Rattle.runs.specs.Promises.{NoTwoAlike}
use Rattle.market.proofs.Weights.{book_sum, book_sum_without, book_sum_put, sum_over_inserted, sum_over_pending, sum_over_one, one}

-- 1 for an order of this number.
abbrev pub has_number : ℕ → Order → ℕ
has_number n order = cond (eqb n order.number) 1 0

-- While an order with a rest is placed: so many events are told, and with the orders pending and the rest there are at most `most`.
pub record Counted (given told most rest : ℕ) (rows : Rows) : Type 0 where
  pub few : told + book_sum one rows + min 1 rest ≤ most
  pub within : book_sum one rows ≤ 256
  pub once : (n : ℕ) → book_sum (has_number n) rows ≤ 1
  pub none_above : (n : ℕ) → given < n → book_sum (has_number n) rows ≡ 0

pub counted_later : (given told most rest : ℕ) (rows : Rows) → Counted given told most rest rows → Counted (suc given) told most rest rows
counted_later given told most rest rows h = record { few = h.few; within = h.within; once = h.once; none_above = λ n l. h.none_above n (omega arith) }

pub counted_without : (given told most rest : ℕ) (rows : Rows) (picked : Order → Bool) → Counted given told most rest rows → Counted given (told + length (picked_orders picked rows)) most rest (rows_without picked rows)
counted_without given told most rest rows picked h =
    record {
      few = omega (arith, h.few, book_sum_without one picked rows, sum_over_one (picked_orders picked rows));
      within = omega (arith, h.within, book_sum_without one picked rows);
      once = λ n. omega (arith, h.once n, book_sum_without (has_number n) picked rows);
      none_above = λ n l. omega (arith, h.none_above n l, book_sum_without (has_number n) picked rows);
    }

-- The rest is cancelled, with one event if there is a rest.
pub counted_rest_cancelled : (given told most rest more : ℕ) (rows : Rows) → more ≤ min 1 rest → Counted given told most rest rows → Counted given (told + more) most 0 rows
counted_rest_cancelled given told most rest more rows l h = record { few = omega (arith, h.few); within = h.within; once = h.once; none_above = h.none_above }

-- ---- a fill

-- A number that does not look at the lots is no greater after a fill.
filled_less : (w : Order → ℕ) → ((o : Order) (lots : ℕ) → w (record { rate = o.rate; number = o.number; member = o.member; lots = lots }) ≡ w o) → (first : Order) (lots : ℕ) (others : List Order) → sum_over w (row_filled first lots others) ≤ sum_over w (first ∷ others)
unfolding sum_over
filled_less w same first lots others = cond_both (ltb lots first.lots) _ others (λ z. sum_over w z ≤ w first + sum_over w others) (λ _. omega (arith, same first (first.lots - lots))) (λ _. omega arith)

-- There is one order less, or no rest.
pub filled_count : (first : Order) (others : List Order) (rest : ℕ) → 0 < rest → 1 + sum_over one (row_filled first (min rest first.lots) others) + min 1 (rest - min rest first.lots) ≤ sum_over one (first ∷ others) + min 1 rest
unfolding sum_over
filled_count first others rest h =
    cond_both (ltb (min rest first.lots) first.lots) _ others (λ z. 1 + sum_over one z + min 1 (rest - min rest first.lots) ≤ 1 + sum_over one others + min 1 rest)
    (λ e. let l = ltb-true (min rest first.lots) first.lots e in omega arith)
    (λ e. let l = ltb-false (min rest first.lots) first.lots e in omega arith)

pub counted_filled : (given told most rest : ℕ) (rows : Rows) (side : Side) (i : ℕ) (first : Order) (others : List Order) → i < 16 → 0 < rest → rows side i ≡ (first ∷ others) → Counted given told most rest rows → Counted given (told + 1) most (rest - min rest first.lots) (put_row rows side i (row_filled first (min rest first.lots) others))
counted_filled given told most rest rows side i first others l some here h =
    record {
      few = omega (arith, h.few, less one (λ _ _. refl), filled_count first others rest some, changed one, ap (sum_over one) here);
      within = omega (arith, h.within, less one (λ _ _. refl));
      once = λ n. omega (arith, h.once n, less (has_number n) (λ _ _. refl));
      none_above = λ n k. omega (arith, h.none_above n k, less (has_number n) (λ _ _. refl));
    }
  where
    changed : (w : Order → ℕ) → book_sum w (put_row rows side i (row_filled first (min rest first.lots) others)) + sum_over w (rows side i) ≡ book_sum w rows + sum_over w (row_filled first (min rest first.lots) others)
    changed w = book_sum_put w rows side i (row_filled first (min rest first.lots) others) l

    less : (w : Order → ℕ) → ((o : Order) (lots : ℕ) → w (record { rate = o.rate; number = o.number; member = o.member; lots = lots }) ≡ w o) → book_sum w (put_row rows side i (row_filled first (min rest first.lots) others)) ≤ book_sum w rows
    less w same = omega (arith, changed w, ap (sum_over w) here, filled_less w same first (min rest first.lots) others)

-- ---- an order is stored

pub counted_stored : (given told rest : ℕ) (rows : Rows) (side : Side) (i : ℕ) (before : Order → Order → Bool) (x : Order) → i < 16 → 0 < rest → x.number ≡ suc given → Counted given told 256 rest rows → Counted (suc given) told 256 0 (put_row rows side i (inserted before x (rows side i)))
counted_stored given told rest rows side i before x l some number h =
    record {
      few = omega (arith, h.few, more one);
      within = omega (arith, h.few, more one);
      once = λ n. omega (arith, more (has_number n), new_once n);
      none_above = λ n k. omega (arith, more (has_number n), h.none_above n (omega arith), cond-false {A = ℕ} (eqb n x.number) 1 0 (ne_eqb n x.number (λ e. omega arith)));
    }
  where
    more : (w : Order → ℕ) → book_sum w (put_row rows side i (inserted before x (rows side i))) ≡ book_sum w rows + w x
    more w = omega (arith, book_sum_put w rows side i (inserted before x (rows side i)) l, sum_over_inserted w before x (rows side i))

    new_once : (n : ℕ) → book_sum (has_number n) rows + has_number n x ≤ 1
    new_once n =
        cond_both {A = ℕ} (eqb n x.number) 1 0 (λ z. book_sum (has_number n) rows + z ≤ 1)
        (λ e. let same = eqb-true n x.number e in omega (arith, h.none_above n (omega arith)))
        (λ _. omega (arith, h.once n))

-- ---- in the words of the promise

numbers_alike : (xs : List Order) → ((n : ℕ) → sum_over (has_number n) xs ≤ 1) → NoTwoAlike (map (λ o. o.number) xs)
unfolding sum_over
numbers_alike [] h = tt
numbers_alike (x ∷ xs) h = (differ xs (λ e. h x.number), numbers_alike xs (λ n. omega (arith, h n)))
  where
    own : has_number x.number x ≡ 1
    own = cond-true {A = ℕ} (eqb x.number x.number) 1 0 (eq-eqb x.number x.number refl)

    differ : (ys : List Order) → (Unit {0} → has_number x.number x + sum_over (has_number x.number) ys ≤ 1) → AllByRecursion (λ other. x.number ≢ other) (map (λ o. o.number) ys)
    differ [] k = tt
    differ (y ∷ ys) k =
        ((λ e. let hit = cond-true {A = ℕ} (eqb x.number y.number) 1 0 (eq-eqb x.number y.number e) in omega (arith, k tt, own)), differ ys (λ _. omega (arith, k tt)))

pub no_number_twice : (given told most rest : ℕ) (rows : Rows) → Counted given told most rest rows → NoTwoAlike (map (λ o. o.number) (pending_orders rows))
no_number_twice given told most rest rows h = numbers_alike (pending_orders rows) (λ n. omega (arith, h.once n, sum_over_pending (has_number n) rows))

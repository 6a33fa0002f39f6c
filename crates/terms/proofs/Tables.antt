-- Laws of tables and sums.
use Rattle.std.proofs.Common.{◌≡◌, ℕ, zero, suc, ◌+◌, ◌*◌, ◌<◌, ◌≤◌, cond, eqb, ltb, List, [], ◌∷◌, map, length, get_or, set, replicate, sym, refl, ap, ◌∙◌, subst, ⊎_elim, mul-suc, add-one, arith, length-set}
use mathlib.Core.Path.{fun_ext}
use Rattle.std.proofs.lemmas.List.{get_or-set_same, get_or-set_other, get_or-map, map-set}
use Rattle.std.proofs.lemmas.Bool.{lt-ltb, le-ltb, eqb-true, eqb-false, eq-eqb, ne_eqb, cond_both, cond-true, cond-false, cases_eq}
use Rattle.terms.specs.Tables.{put, column, sum_below}

-- A table with a at place i: whatever holds of a there, and of the old table elsewhere, holds everywhere.
pub put_cases : {A : Type 0} (table : ℕ → A) (i : ℕ) (a : A) (j : ℕ) (P : A → Type 0) → (i ≡ j → P a) → ((i ≡ j → ⊥) → P (table j)) → P (put table i a j)
put_cases table i a j P here there = cond_both (eqb i j) a (table j) P (λ e. here (eqb-true i j e)) (λ e. there (eqb-false i j e))

pub put_here : {A : Type 0} (table : ℕ → A) (i : ℕ) (a : A) → put table i a i ≡ a
put_here table i a = cond-true (eqb i i) a (table i) (eq-eqb i i refl)

pub put_there : {A : Type 0} (table : ℕ → A) (i : ℕ) (a : A) (j : ℕ) → (i ≡ j → ⊥) → put table i a j ≡ table j
put_there table i a j ne = cond-false (eqb i j) a (table j) (ne_eqb i j ne)

-- Putting back what stands there changes nothing.
pub put_same : {A : Type 0} (table : ℕ → A) (i : ℕ) (a : A) → table i ≡ a → put table i a ≡ table
put_same {A} table i a e = fun_ext (λ j. put_cases table i a j (λ (z : A). z ≡ table j) (λ d. sym e ∙ ap table d) (λ _. refl))

-- Reading an entry's number from the array itself.
pub column_at : {A : Type 0} (n : ℕ) (xs : List A) (number : A → ℕ) (i : ℕ) (d : A) → i < n → i < length xs → column n xs number i ≡ number (get_or xs i d)
column_at n xs number i d l h = cond-true (ltb i n) (get_or (map number xs) i 0) 0 (lt-ltb i n l) ∙ get_or-map number xs i d 0 h

pub column_past : {A : Type 0} (n : ℕ) (xs : List A) (number : A → ℕ) (i : ℕ) → n ≤ i → column n xs number i ≡ 0
column_past n xs number i l = cond-false (ltb i n) (get_or (map number xs) i 0) 0 (le-ltb i n l)

-- What holds of every entry's number, and of 0, holds of every place of a column.
pub column_all : {A : Type 0} (P : ℕ → Type 0) → P 0 → (n : ℕ) (xs : List A) (number : A → ℕ) → ((x : A) → P (number x)) → (i : ℕ) → P (column n xs number i)
column_all {A} P none n xs number each i = cond_both (ltb i n) (get_or (map number xs) i 0) 0 P (λ _. entry xs i) (λ _. none)
  where
    entry : (ys : List A) (j : ℕ) → P (get_or (map number ys) j 0)
    entry [] j = none
    entry (y ∷ ys) zero = each y
    entry (y ∷ ys) (suc j) = entry ys j

-- Where one column is 0, so is another that is 0 for every entry in which the first is.
pub column_follows : {A : Type 0} (xs : List A) (one other : A → ℕ) (n : ℕ) → ((x : A) → one x ≡ 0 → other x ≡ 0) → (i : ℕ) → column n xs one i ≡ 0 → column n xs other i ≡ 0
column_follows {A} xs one other n each i e = cond_both (ltb i n) (get_or (map other xs) i 0) 0 (λ z. z ≡ 0) (λ inside. entry xs i (sym (cond-true (ltb i n) (get_or (map one xs) i 0) 0 inside) ∙ e)) (λ _. refl)
  where
    entry : (ys : List A) (j : ℕ) → get_or (map one ys) j 0 ≡ 0 → get_or (map other ys) j 0 ≡ 0
    entry [] j d = refl
    entry (y ∷ ys) zero d = each y d
    entry (y ∷ ys) (suc j) d = entry ys j d

pub column_replicate : {A : Type 0} (n k : ℕ) (x : A) (number : A → ℕ) → number x ≡ 0 → column n (replicate k x) number ≡ (λ _. 0)
column_replicate n k x number none = fun_ext (λ i. cond_both (ltb i n) (get_or (map number (replicate k x)) i 0) 0 (λ z. z ≡ 0) (λ _. entry k i) (λ _. refl))
  where
    entry : (k j : ℕ) → get_or (map number (replicate k x)) j 0 ≡ 0
    entry zero j = refl
    entry (suc k) zero = none
    entry (suc k) (suc j) = entry k j

-- A write to an array, seen as a table.
pub column_set : {A : Type 0} (n : ℕ) (xs : List A) (number : A → ℕ) (i : ℕ) (x : A) → i < n → i < length xs → column n (set xs i x) number ≡ put (column n xs number) i (number x)
column_set {A} n xs number i x l h = fun_ext (λ j. sym (put_cases (column n xs number) i (number x) j (λ z. z ≡ column n (set xs i x) number j) (here j) (there j)))
  where
    here : (j : ℕ) → i ≡ j → number x ≡ column n (set xs i x) number j
    here j e = subst (λ k. number x ≡ column n (set xs i x) number k) e (sym (column_at n (set xs i x) number i x l (omega (arith, length-set xs i x)) ∙ ap number (get_or-set_same xs i x x h)))

    there : (j : ℕ) → (i ≡ j → ⊥) → column n xs number j ≡ column n (set xs i x) number j
    there j ne = ap (λ z. cond (ltb j n) z 0) (sym (ap (λ ns. get_or ns j 0) (map-set number xs i x) ∙ get_or-set_other (map number xs) i j (number x) 0 (λ e. ne (sym e))))

-- A place at or past the end of a sum does not count.
pub sum_put_past : (n : ℕ) (table : ℕ → ℕ) (i a : ℕ) → n ≤ i → sum_below n (put table i a) ≡ sum_below n table
unfolding sum_below
sum_put_past zero table i a l = refl
sum_put_past (suc n) table i a l =
    let before = sum_put_past n table i a (omega arith) in
    let here = put_there table i a n (λ e. omega arith) in
    omega arith

-- A place within a sum counts by its new number in place of its old one.
pub sum_put : (n : ℕ) (table : ℕ → ℕ) (i a : ℕ) → i < n → sum_below n (put table i a) + table i ≡ sum_below n table + a
unfolding sum_below
sum_put zero table i a l = absurd (omega arith)
sum_put (suc n) table i a l = ⊎_elim last (earlier (sum_put n table i a)) (cases_eq i n)
  where
    last : i ≡ n → sum_below n (put table i a) + put table i a n + table i ≡ sum_below n table + table n + a
    last e =
        let before = sum_put_past n table i a (omega arith) in
        let new : put table i a n ≡ a = subst (λ z. put table i a z ≡ a) e (put_here table i a) in
        let old : table i ≡ table n = ap table e in
        omega arith

    earlier : (i < n → sum_below n (put table i a) + table i ≡ sum_below n table + a) → (i ≡ n → ⊥) → sum_below n (put table i a) + put table i a n + table i ≡ sum_below n table + table n + a
    earlier step ne =
        let before = step (omega arith) in
        let here = put_there table i a n ne in
        omega arith

pub sum_zero : (n : ℕ) (table : ℕ → ℕ) → ((i : ℕ) → table i ≡ 0) → sum_below n table ≡ 0
unfolding sum_below
sum_zero zero table none = refl
sum_zero (suc n) table none = let before = sum_zero n table none in omega (arith, none n)

pub sum_at_most : (n : ℕ) (table : ℕ → ℕ) (most : ℕ) → ((i : ℕ) → table i ≤ most) → sum_below n table ≤ most * n
unfolding sum_below
sum_at_most zero table most each = omega arith
sum_at_most (suc n) table most each = let before = sum_at_most n table most each in omega (arith, each n, mul-suc most n)

pub place_at_most_sum : (n : ℕ) (table : ℕ → ℕ) (i : ℕ) → i < n → table i ≤ sum_below n table
place_at_most_sum n table i l = let without = sum_put n table i 0 l in omega arith

pub sum_more : (n : ℕ) (table : ℕ → ℕ) → sum_below (n + 1) table ≡ sum_below n table + table n
unfolding sum_below
sum_more n table = ap (λ m. sum_below m table) (add-one n)

-- Tables as functions from the index, and sums over their first places.
use Rattle.std.specs.Prelude.{ℕ, zero, suc, ◌+◌, cond, List, map, ◌==◌, nat_lt, slice_index}

-- The same table, but a at place i.
abbrev pub put : {A : Type 0} → (ℕ → A) → ℕ → A → ℕ → A
put table i a j = cond (i == j) a (table j)

-- One number of each of an array's first n entries, as a table: 0 past them.
abbrev pub column : {A : Type 0} → ℕ → List A → (A → ℕ) → ℕ → ℕ
column n entries number i = cond (nat_lt i n) (slice_index (map number entries) i) 0

-- The sum over places 0 to n - 1. Not an abbreviation: a proof would see it written out.
unfoldable pub sum_below : ℕ → (ℕ → ℕ) → ℕ
sum_below zero table = 0
sum_below (suc n) table = sum_below n table + table n

-- Rows of entries that stand by precedence: what insert, first and remove give, and what is meant by order.
use Rattle.std.specs.Prelude.{ℕ, zero, suc, ◌+◌, ◌-◌, Bool, cond, ◌&&◌, List, [], ◌∷◌, ◌++◌, length, take, drop, Some, None, Ok, Err, Option, Result, ◌==◌, nat_le, nat_lt}
use Rattle.row.specs.declared.refusal.RowRefusal.{RowRefusal}
use Rattle.row.specs.declared.refusal.RowRefusal.TheVariants.{CountBeyondSlice, NoRoom, NoSuchPlace}

-- ---- lists of entries

-- The entry goes in before the first one that it precedes, and last if it precedes none.
abbrev pub inserted : {X : Type 0} → (X → X → Bool) → X → List X → List X
inserted precedes entry [] = entry ∷ []
inserted precedes entry (x ∷ xs) = cond (precedes entry x) (entry ∷ x ∷ xs) (x ∷ inserted precedes entry xs)

-- The entry at a place is taken out, and the ones after it move up.
abbrev pub without : {X : Type 0} → ℕ → List X → List X
without place xs = take place xs ++ drop (place + 1) xs

abbrev pub entry_at : {X : Type 0} → ℕ → List X → Option X
entry_at place [] = None
entry_at zero (x ∷ xs) = Some x
entry_at (suc place) (x ∷ xs) = entry_at place xs

-- ---- the calls, over the first n places of a slice; every call is refused if there are fewer

abbrev pub counted : {X A : Type 0} → ℕ → List X → Result A RowRefusal → Result A RowRefusal
counted n slice answer = cond (nat_lt (length slice) n) (Err CountBeyondSlice) answer

abbrev pub count_answer : {X : Type 0} → ℕ → List X → Result (Unit {0}) RowRefusal
count_answer n slice = counted n slice (Ok tt)

abbrev pub insert_answer : {X : Type 0} → ℕ → List X → Result ℕ RowRefusal
insert_answer n slice = counted n slice (cond (n == length slice) (Err NoRoom) (Ok (n + 1)))

abbrev pub after_insert : {X : Type 0} → (X → X → Bool) → ℕ → X → List X → List X
after_insert precedes n entry slice =
    cond (nat_lt n (length slice)) (inserted precedes entry (take n slice) ++ drop (n + 1) slice) slice

-- What is not among the places is refused.
abbrev pub found : {X : Type 0} → Option X → Result X RowRefusal
found None = Err NoSuchPlace
found (Some x) = Ok x

abbrev pub remove_answer : {X : Type 0} → ℕ → ℕ → List X → Result X RowRefusal
remove_answer n place slice = counted n slice (found (entry_at place (take n slice)))

abbrev pub after_remove : {X : Type 0} → ℕ → ℕ → List X → List X
after_remove n place slice =
    cond (nat_le n (length slice) && nat_lt place n) (without place (take n slice) ++ drop (n - 1) slice) slice

abbrev pub first_answer : {X : Type 0} → ℕ → List X → Result (Option X) RowRefusal
first_answer n slice = counted n slice (Ok (entry_at 0 (take n slice)))

-- Order, and what insert, remove and first keep of it.
use Rattle.std.specs.Prelude.{◌≡◌, ℕ, Bool, List, [], ◌∷◌, ◌++◌, Some}
use Rattle.row.specs.Rows.{inserted, without, entry_at}

-- None of these precedes the entry.
abbrev pub PrecededByNone : {X : Type 0} → (X → X → Type 0) → X → List X → Type 0
PrecededByNone Precedes entry [] = Unit {0}
PrecededByNone Precedes entry (x ∷ xs) = (Precedes x entry → ⊥) × PrecededByNone Precedes entry xs

-- No entry precedes one that stands ahead of it.
abbrev pub InOrder : {X : Type 0} → (X → X → Type 0) → List X → Type 0
InOrder Precedes [] = Unit {0}
InOrder Precedes (x ∷ xs) = PrecededByNone Precedes x xs × InOrder Precedes xs

-- The second row is the first with one entry more at some place: none is lost, changed or moved past another.
pub record OneMore {X : Type 0} (entry : X) (fewer more : List X) : Type 0 where
  pub front : List X
  pub back : List X
  pub fewer_is : fewer ≡ front ++ back
  pub more_is : more ≡ front ++ entry ∷ back

-- What holds of every row, whatever the kind of entry.
pub record RowLaws {X : Type 0} (Precedes : X → X → Type 0) (test : X → X → Bool) : Type 0 where
  pub insert_keeps_order : (entry : X) (xs : List X) → InOrder Precedes xs → InOrder Precedes (inserted test entry xs)
  pub insert_adds_one : (entry : X) (xs : List X) → OneMore entry xs (inserted test entry xs)
  pub remove_keeps_order : (place : ℕ) (xs : List X) → InOrder Precedes xs → InOrder Precedes (without place xs)
  pub remove_takes_one : (place : ℕ) (xs : List X) (entry : X) → entry_at place xs ≡ Some entry → OneMore entry (without place xs) xs
  pub first_preceded_by_none : (xs : List X) (entry : X) → InOrder Precedes xs → entry_at 0 xs ≡ Some entry → PrecededByNone Precedes entry xs

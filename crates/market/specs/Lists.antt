-- What is written into a lent list.
use Rattle.std.specs.Prelude.{◌≡◌, ℕ, ◌+◌, ◌≤◌, List, ◌++◌, length, take, drop}

-- These items stand from one place to another; all other places are as they were.
pub record Wrote {A : Type 0} (old new : List A) (from to : ℕ) (items : List A) : Type 0 where
  pub count : to ≡ from + length items
  pub fits : to ≤ length old
  pub places : new ≡ take from old ++ (items ++ drop to old)

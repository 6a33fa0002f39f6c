-- The fields of a message.
use Rattle.std.specs.Prelude.{ℕ, List, [], ◌∷◌}

-- The widths of a message's fields, from the most significant bit: 64 bits in all.
abbrev pub layout : List ℕ
layout = 3 ∷ 5 ∷ 4 ∷ 1 ∷ 1 ∷ 16 ∷ 20 ∷ 14 ∷ []

-- A number for each field, also one that does not fit.
pub record FieldValues : Type 0 where
  pub code : ℕ
  pub member : ℕ
  pub instrument : ℕ
  pub side : ℕ
  pub term : ℕ
  pub lots : ℕ
  pub rate : ℕ
  pub spare : ℕ

abbrev pub values : FieldValues → List ℕ
values f =
    f.code ∷ f.member ∷ f.instrument ∷ f.side ∷ f.term ∷ f.lots ∷ f.rate ∷ f.spare ∷ []

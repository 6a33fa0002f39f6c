-- Numbers as fields of bits, one after another from the most significant.
use Rattle.std.specs.Prelude.{ℕ, ◌+◌, ◌*◌, ◌/◌, ◌%◌, ◌^◌, ◌<◌, List, [], ◌∷◌}

-- So many bits (width) at such a place, which is the number of bits below them.
abbrev pub field : ℕ → ℕ → ℕ → ℕ
field number place width = number / 2 ^ place % 2 ^ width

-- The bits that fields of these widths take up.
abbrev pub total : List ℕ → ℕ
total [] = 0
total (width ∷ widths) = width + total widths

-- A number taken apart into fields of these widths.
abbrev pub split : List ℕ → ℕ → List ℕ
split [] number = []
split (width ∷ widths) number = field number (total widths) width ∷ split widths number

-- Fields of these widths put together.
abbrev pub join : List ℕ → List ℕ → ℕ
join [] values = 0
join (width ∷ widths) [] = 0
join (width ∷ widths) (value ∷ values) = value * 2 ^ total widths + join widths values

-- There are as many values as widths, and each fits its own.
abbrev pub Fit : List ℕ → List ℕ → Type 0
Fit [] [] = Unit {0}
Fit [] (value ∷ values) = ⊥
Fit (width ∷ widths) [] = ⊥
Fit (width ∷ widths) (value ∷ values) = (value < 2 ^ width) × Fit widths values

-- When two listings show the same market.
use Rattle.std.specs.Prelude.{◌≡◌, ℕ, List, map, ℤ}
use Rattle.terms.specs.declared.Side.{Side}
use Rattle.market.specs.declared.orders.Listed.{Listed}

-- What a listing shows of an order: not whose it is, and not its number.
pub record Shown : Type 0 where
  pub side : Side
  pub rate : ℤ
  pub lots : ℕ

abbrev pub shown : Listed → Shown
shown listed = record { side = listed.side; rate = listed.rate; lots = listed.lots }

-- Equally long, and place by place the same shown.
abbrev pub Alike : List Listed → List Listed → Type 0
Alike one other = map shown one ≡ map shown other

-- A member's two totals in one instrument, by side.
use Rattle.std.specs.Prelude.{ℕ, List}
use Rattle.terms.specs.declared.Side.{Side}
use Rattle.terms.specs.declared.Side.TheVariants.{Bid, Offer}
use Rattle.terms.specs.Tables.{column}
use Rattle.positions.specs.declared.totals.MemberLots.{MemberLots}

abbrev pub total_on : MemberLots → Side → ℕ
total_on lots Bid = lots.bought
total_on lots Offer = lots.sold

-- The lots of all members, by side and member.
abbrev pub totals_of : List MemberLots → Side → ℕ → ℕ
totals_of members side = column 32 members (λ lots. total_on lots side)

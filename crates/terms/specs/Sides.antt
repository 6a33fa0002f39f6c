-- The two sides of the market.
use Rattle.std.specs.Prelude.{Bool, true, false}
use Rattle.terms.specs.declared.Side.{Side}
use Rattle.terms.specs.declared.Side.TheVariants.{Bid, Offer}

abbrev pub same_side : Side → Side → Bool
same_side Bid Bid = true
same_side Bid Offer = false
same_side Offer Bid = false
same_side Offer Offer = true

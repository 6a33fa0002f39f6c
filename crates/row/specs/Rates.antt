-- Precedence as a dealer says it: the better rate stands first, and at one rate the lower number.
use Rattle.std.specs.Prelude.{◌≡◌, ◌<◌, Bool, true, false, cond, ◌⊎◌, ℤ, ◌<ℤ◌, int_lt, nat_lt}
use Rattle.terms.specs.declared.Order.{Order}
use Rattle.terms.specs.declared.Side.{Side}
use Rattle.terms.specs.declared.Side.TheVariants.{Bid, Offer}

-- For a bid the higher rate is better, for an offer the lower.
abbrev pub BetterRate : Side → ℤ → ℤ → Type 0
BetterRate Bid r s = s <ℤ r
BetterRate Offer r s = r <ℤ s

abbrev pub Precedes : Side → Order → Order → Type 0
Precedes side a b = BetterRate side a.rate b.rate ⊎ ((a.rate ≡ b.rate) × (a.number < b.number))

-- What precedence does not tell apart.
abbrev pub Alike : Order → Order → Type 0
Alike a b = (a.rate ≡ b.rate) × (a.number ≡ b.number)

-- The same as a test.
abbrev pub better_rate : Side → ℤ → ℤ → Bool
better_rate Bid r s = int_lt s r
better_rate Offer r s = int_lt r s

abbrev pub precedes : Side → Order → Order → Bool
precedes side a b =
    cond (better_rate side a.rate b.rate) true
    (cond (better_rate side b.rate a.rate) false (nat_lt a.number b.number))

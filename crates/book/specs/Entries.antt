-- The precedence of the book's entries: by instrument, bids before offers, and on one side of one instrument by rate and number.
use Rattle.std.specs.Prelude.{◌≡◌, ◌<◌, Bool, true, false, cond, ◌⊎◌, nat_lt}
use Rattle.terms.specs.declared.Order.{Order}
use Rattle.terms.specs.declared.Side.{Side}
use Rattle.terms.specs.declared.Side.TheVariants.{Bid, Offer}
use Rattle.row.specs.Rates.{Precedes as OrderPrecedes, Alike as OrdersAlike, precedes as order_precedes}
use Rattle.book.specs.declared.entry.Entry.{Entry}

-- Within one instrument.
abbrev pub PrecedesBySide : Side → Side → Order → Order → Type 0
PrecedesBySide Bid Bid a b = OrderPrecedes Bid a b
PrecedesBySide Bid Offer a b = Unit {0}
PrecedesBySide Offer Bid a b = ⊥
PrecedesBySide Offer Offer a b = OrderPrecedes Offer a b

abbrev pub Precedes : Entry → Entry → Type 0
Precedes a b =
    (a.instrument < b.instrument)
    ⊎ ((a.instrument ≡ b.instrument) × PrecedesBySide a.side b.side a.order b.order)

-- What precedence does not tell apart.
abbrev pub Alike : Entry → Entry → Type 0
Alike a b = (a.instrument ≡ b.instrument) × (a.side ≡ b.side) × OrdersAlike a.order b.order

-- The same as a test.
abbrev pub precedes_by_side : Side → Side → Order → Order → Bool
precedes_by_side Bid Bid a b = order_precedes Bid a b
precedes_by_side Bid Offer a b = true
precedes_by_side Offer Bid a b = false
precedes_by_side Offer Offer a b = order_precedes Offer a b

abbrev pub precedes : Entry → Entry → Bool
precedes a b =
    cond (nat_lt a.instrument b.instrument) true
    (cond (nat_lt b.instrument a.instrument) false (precedes_by_side a.side b.side a.order b.order))

-- ---- orders that leave together

abbrev pub HasLowerNumber : Order → Order → Type 0
HasLowerNumber a b = a.number < b.number

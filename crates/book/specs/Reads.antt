-- The rows of the rules, as a book holds them.
use Rattle.std.specs.Prelude.{ℕ, ◌-◌, Bool, cond, ◌&&◌, List, [], ◌∷◌, ◌++◌, map, length, slice_index_or, pos, Some, None, filter, Option, ◌==◌, nat_lt, slice_set}
use Rattle.terms.specs.declared.Order.{Order}
use Rattle.terms.specs.declared.Side.{Side}
use Rattle.terms.specs.declared.Side.TheVariants.{Bid, Offer}
use Rattle.terms.specs.Sides.{same_side}
use Rattle.row.specs.Rows.{without}
use Rattle.market.specs.declared.calls.ListingCounts.{ListingCounts}
use Rattle.market.specs.declared.orders.Listed.{Listed}
use Rattle.market.specs.Markets.{Rows, listed}
use Rattle.market.specs.Meeting.{row_filled}
use Rattle.book.specs.declared.books.Book.{Book}
use Rattle.book.specs.declared.books.Taken.{Taken}
use Rattle.book.specs.declared.entry.Entry.{Entry}
use Rattle.book.specs.declared.entry.Leaving.{Leaving}

abbrev pub order_of : Entry → Order
order_of entry = entry.order

abbrev pub stands_at : Side → ℕ → Entry → Bool
stands_at side i entry = same_side side entry.side && i == entry.instrument

-- The orders of one side of one instrument.
abbrev pub rows_in : List Entry → Rows
rows_in entries side i = map order_of (filter (stands_at side i) entries)

abbrev pub entries_of : Book → List Entry
entries_of book = book.entries.items

abbrev pub rows_of : Book → Rows
rows_of book = rows_in (entries_of book)

abbrev pub leaving_order : Leaving → Order
leaving_order leaving = leaving.0

abbrev pub taken_orders : Taken → List Order
taken_orders taken = map leaving_order taken.orders.items

abbrev pub first_of : List Order → Option Order
first_of [] = None
first_of (first ∷ others) = Some first

-- A row whose first order, if there is one, is filled by so many lots.
abbrev pub first_filled : ℕ → List Order → List Order
first_filled lots [] = []
first_filled lots (first ∷ others) = row_filled first lots others

-- The listing of an instrument, and how many bids and offers it has.
abbrev pub listing_in : Rows → ℕ → List Listed
listing_in rows i = map (listed Bid) (rows Bid i) ++ map (listed Offer) (rows Offer i)

abbrev pub counts_of : Rows → ℕ → ListingCounts
counts_of rows i = record { bids = length (rows Bid i); offers = length (rows Offer i) }

-- ---- one entry

abbrev pub blank_entry : Entry
blank_entry = record { instrument = 0; side = Bid; order = record { rate = pos 0; number = 0; member = 0; lots = 0 } }

abbrev pub entry_with_lots : Entry → ℕ → Entry
entry_with_lots entry lots =
    record { instrument = entry.instrument; side = entry.side; order = record { rate = entry.order.rate; number = entry.order.number; member = entry.order.member; lots = lots } }

-- The entry at a place filled by so many lots, and taken out if none are left.
abbrev pub filled_at : ℕ → ℕ → List Entry → List Entry
filled_at place lots entries =
    cond (nat_lt lots (slice_index_or entries place blank_entry).order.lots)
    (slice_set entries place (entry_with_lots (slice_index_or entries place blank_entry) ((slice_index_or entries place blank_entry).order.lots - lots)))
    (without place entries)

-- Lots of a member in a part of the book.
use Rattle.std.specs.Prelude.{ℕ, Bool, true, cond, ◌==◌}
use Rattle.market.specs.Markets.{Rows, is_of, lots_of, pending_in, pending_lots}
use Rattle.book.specs.declared.entry.Entry.{Entry}
use Rattle.book.specs.declared.part.Part.{Part}
use Rattle.book.specs.declared.part.Part.TheVariants.{Whole, Instrument, Row}
use Rattle.book.specs.Reads.{order_of, stands_at}

abbrev pub is_in_part : Part → Entry → Bool
is_in_part Whole entry = true
is_in_part (Instrument i) entry = i == entry.instrument
is_in_part (Row side i) entry = stands_at side i entry

-- What one entry adds.
abbrev pub counted_lots : Part → ℕ → Entry → ℕ
counted_lots part m entry = cond (is_in_part part entry) (cond (is_of m (order_of entry)) entry.order.lots 0) 0

abbrev pub part_lots : Part → Rows → ℕ → ℕ
part_lots Whole rows m = pending_lots rows m
part_lots (Instrument i) rows m = pending_in rows m i
part_lots (Row side i) rows m = lots_of m (rows side i)

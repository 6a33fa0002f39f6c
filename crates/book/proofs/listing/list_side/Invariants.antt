use Rattle.std.proofs.Common.{map, take}
use Rattle.market.specs.Lists.{Wrote}
use Rattle.market.specs.Markets.{listed}
use Rattle.book.specs.Reads.{rows_in}
use Rattle.book.proofs.listing.list_side.Given as goal

abbrev pub invariant-loop-entry : goal.invariant-loop-entry
invariant-loop-entry l = Wrote l.initial.list l.list l.from l.place (map (listed l.side) (rows_in (take l.entry-index l.entries) l.side l.instrument))

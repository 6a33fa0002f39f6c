use Rattle.std.proofs.Common.{◌+◌, map, take}
use Rattle.market.specs.Cancels.{cancelled}
use Rattle.market.specs.Lists.{Wrote}
use Rattle.book.specs.Reads.{leaving_order}
use Rattle.book.proofs.books.Taken.tell_all.Given as goal

abbrev pub invariant-loop-i : goal.invariant-loop-i
invariant-loop-i l = Wrote l.initial.events l.events l.from (l.from + l.i) (map (cancelled l.reason) (map leaving_order (take l.i l.self.orders.items)))

use Rattle.std.proofs.Common.{length, ap, arith}
use Rattle.std.proofs.lemmas.List.{length-map}
use Rattle.book.specs.Reads.{leaving_order}
use Rattle.book.proofs.Loops.{tell_more}
use Rattle.book.proofs.books.Taken.tell_all.Goals as goal

pub loop-i-preserved : goal.loop-i-preserved
loop-i-preserved c =
    let taken = c.args.self.now.orders.items in
    let items = c.deref-leaving-items.ensures.0 in
    tell_more c.args.reason c.deref-leaving-items.result.now taken c.args.events.now c.loop-i.events c.args.from c.loop-i.i _ c.cancelled.result items c.loop-i-test.true
    (omega (arith, ap length items, length-map taken leaving_order, c.requires)) c.cancelled.ensures c.loop-i.invariant

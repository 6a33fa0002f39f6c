use Rattle.std.proofs.Common.{◌-◌, map, length, drop, filter, sym, ap, ◌∙◌, arith}
use Rattle.std.proofs.lemmas.List.{length-map, length_push, length-reverse}
use Rattle.std.proofs.lemmas.Iterator.Adapters.{YieldsList-from_rev_slice}
use Rattle.std.proofs.lemmas.Iterator.Consumers.{YieldsList-turn}
use Rattle.market.specs.Cancels.{by_number, has_lower_number}
use Rattle.book.specs.Picks.{picks}
use Rattle.book.specs.Reads.{order_of, leaving_order}
use Rattle.book.proofs.Loops.{collected, not_collected, none_collected}
use Rattle.book.proofs.Places.{length_inserted}
use Rattle.book.proofs.taking.collect.Goals as goal

pub loop-entry-init : goal.loop-entry-init
loop-entry-init c = record {
  collected = ap (map leaving_order) c.new-orders.ensures ∙ none_collected (picks c.args.picked.now) (map order_of c.args.entries.now) _ (omega (arith, length-map c.args.entries.now order_of));
  few = omega (arith, ap length c.new-orders.ensures);
}

pub loop-entry-preserved-then-picks : goal.loop-entry-preserved-then-picks
loop-entry-preserved-then-picks c =
    let t = YieldsList-turn (YieldsList-from_rev_slice c.args.entries.now cc) c.loop-entry.yielded _ c.loop-entry.yielded_by _ _ c.in-Some.entry c.in-Some.is c.next.ensures.steps in
    let one_more = length_push c.loop-entry.yielded c.in-Some.entry in
    record {
      collected = collected (picks c.args.picked.now) c.args.entries.now (length c.loop-entry.yielded) c.in-Some.entry.now (omega (arith, t.0, length-reverse c.args.entries.now)) t.1 c.loop-entry.orders.items c.put_in_order.new.entries.items c.loop-entry.invariant.collected (sym c.picks.ensures ∙ c.if-picks.true) c.put_in_order.ensures
          ∙ ap (λ n. by_number (filter (picks c.args.picked.now) (drop (length c.args.entries.now - n) (map order_of c.args.entries.now)))) (sym one_more);
      few = omega (arith, c.loop-entry.invariant.few, one_more, ap length c.put_in_order.ensures, length_inserted (λ a b. has_lower_number (leaving_order a) (leaving_order b)) (record { 0 = order_of c.in-Some.entry.now }) c.loop-entry.orders.items);
    }

pub loop-entry-preserved : goal.loop-entry-preserved
loop-entry-preserved c =
    let t = YieldsList-turn (YieldsList-from_rev_slice c.args.entries.now cc) c.loop-entry.yielded _ c.loop-entry.yielded_by _ _ c.in-Some.entry c.in-Some.is c.next.ensures.steps in
    let one_more = length_push c.loop-entry.yielded c.in-Some.entry in
    record {
      collected = not_collected (picks c.args.picked.now) c.args.entries.now (length c.loop-entry.yielded) c.in-Some.entry.now (omega (arith, t.0, length-reverse c.args.entries.now)) t.1 (map leaving_order c.loop-entry.orders.items) c.loop-entry.invariant.collected (sym c.picks.ensures ∙ c.if-picks.false)
          ∙ ap (λ n. by_number (filter (picks c.args.picked.now) (drop (length c.args.entries.now - n) (map order_of c.args.entries.now)))) (sym one_more);
      few = omega (arith, c.loop-entry.invariant.few, one_more);
    }

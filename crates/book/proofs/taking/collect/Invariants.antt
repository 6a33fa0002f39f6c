use Rattle.std.proofs.Common.{◌≡◌, ◌-◌, ◌≤◌, map, length, drop, filter}
use Rattle.market.specs.Cancels.{by_number}
use Rattle.book.specs.Picks.{picks}
use Rattle.book.specs.Reads.{order_of, leaving_order}
use Rattle.book.proofs.taking.collect.Given as goal

-- The orders passed are among those collected.
abbrev pub invariant-loop-entry : goal.invariant-loop-entry
invariant-loop-entry l = record {
  collected : map leaving_order l.orders.items ≡ by_number (filter (picks l.picked) (drop (length l.entries - length l.yielded) (map order_of l.entries)));
  few : length l.orders.items ≤ length l.yielded;
}

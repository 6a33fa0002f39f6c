-- Every cancel is one definition: the orders that a test picks leave the rows, and the events are theirs, lowest number first.
use Rattle.std.specs.Prelude.{Bool, not, List, [], ◌∷◌, map, filter, nat_lt}
use Rattle.terms.specs.declared.Order.{Order}
use Rattle.row.specs.Rows.{inserted}
use Rattle.market.specs.declared.events.Event.{Event}
use Rattle.market.specs.declared.events.Event.TheVariants.{Cancelled}
use Rattle.market.specs.declared.events.Reason.{Reason}
use Rattle.market.specs.Markets.{Market, Rows, Told, with_rows, pending_orders}

abbrev pub cancelled : Reason → Order → Event
cancelled reason order =
    Cancelled (record { number = order.number; member = order.member; lots = order.lots; reason = reason })

abbrev pub has_lower_number : Order → Order → Bool
has_lower_number a b = nat_lt a.number b.number

unfoldable pub by_number : List Order → List Order
by_number [] = []
by_number (order ∷ orders) = inserted has_lower_number order (by_number orders)

abbrev pub rows_without : (Order → Bool) → Rows → Rows
rows_without picked rows side i = filter (λ order. not (picked order)) (rows side i)

-- The orders that a test picks from all instruments, lowest number first.
abbrev pub picked_orders : (Order → Bool) → Rows → List Order
picked_orders picked rows = by_number (filter picked (pending_orders rows))

abbrev pub cancelling : (Order → Bool) → Reason → Market → Told
cancelling picked reason M =
    record {
      market = with_rows M (rows_without picked M.rows);
      events = map (cancelled reason) (picked_orders picked M.rows);
    }

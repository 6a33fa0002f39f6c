-- Parts of a place, as the code does them one after another.
use Rattle.std.specs.Prelude.{◌≡◌, ℕ, Bool, true, cond, List, [], ◌∷◌, length, nat_lt}
use Rattle.terms.specs.declared.Order.{Order}
use Rattle.terms.specs.declared.Term.{Term}
use Rattle.terms.specs.declared.Term.TheVariants.{Day, Immediate}
use Rattle.margin.specs.Sheets.{Charge, after_trade}
use Rattle.market.specs.declared.events.Event.{Event}
use Rattle.market.specs.declared.events.Reason.TheVariants.{NotMetAtOnce}
use Rattle.market.specs.declared.orders.NewOrder.{NewOrder}
use Rattle.market.specs.Lists.{Wrote}
use Rattle.market.specs.Markets.{Market, Told, quietly, with_rows, with_sheet, put_row, pending_orders}
use Rattle.market.specs.Meeting.{Meeting, opposite, by_side, rest_cancelled, fill, stored}
use Rattle.book.specs.Reads.{first_filled}
use Rattle.venue.specs.declared.incoming.IncomingOrder.{IncomingOrder}

-- How many orders are pending.
abbrev pub pending_count : Market → ℕ
pending_count M = length (pending_orders M.rows)

-- The same placed order, whatever is left of it.
pub record SameOrder (before after : IncomingOrder) : Type 0 where
  pub number : after.number ≡ before.number
  pub order : after.order ≡ before.order

-- An order that goes on to meet, with nothing told yet.
abbrev pub meeting_at : Market → ℕ → Meeting
meeting_at M rest = record { market = M; rest = rest; meets = true; events = [] }

-- A fill of the first opposite order, whichever it is.
abbrev pub after_first_fill : ℕ → Market → NewOrder → Order → ℕ → Market
after_first_fill reach M new pending lots =
    with_sheet (with_rows M (put_row M.rows (opposite new.side) new.instrument (first_filled lots (M.rows (opposite new.side) new.instrument))))
    (after_trade reach M.sheet (by_side new.side new.member pending.member) (by_side new.side pending.member new.member) new.instrument lots)

abbrev pub fill_first : Charge → ℕ → ℕ → NewOrder → Meeting → List Order → Meeting
fill_first charge reach number new s [] = s
fill_first charge reach number new s (pending ∷ others) = fill charge reach number new s pending others

-- A turn's outcome is what the code answers, leaves and writes.
pub record Turned (turned : Meeting) (market : Market) (rest : ℕ) (meets : Bool) (old new : List Event) (from to : ℕ) : Type 0 where
  pub market_is : market ≡ turned.market
  pub rest_is : rest ≡ turned.rest
  pub meets_is : meets ≡ turned.meets
  pub wrote : Wrote old new from to turned.events

-- The same of a whole meeting.
pub record Met (met : Meeting) (market : Market) (rest : ℕ) (old new : List Event) (from to : ℕ) : Type 0 where
  pub market_is : market ≡ met.market
  pub rest_is : rest ≡ met.rest
  pub wrote : Wrote old new from to met.events

-- The same of what is only told.
pub record Did (told : Told) (market : Market) (old new : List Event) (from to : ℕ) : Type 0 where
  pub market_is : market ≡ told.market
  pub wrote : Wrote old new from to told.events

-- What becomes of a rest.
abbrev pub rest_settled_by : Term → ℕ → NewOrder → Market → ℕ → Told
rest_settled_by Day number new M rest = record { market = stored number new M rest; events = [] }
rest_settled_by Immediate number new M rest = record { market = M; events = rest_cancelled number new NotMetAtOnce rest }

abbrev pub rest_settled : ℕ → NewOrder → Market → ℕ → Told
rest_settled number new M rest = cond (nat_lt 0 rest) (rest_settled_by new.term number new M rest) (quietly M)

-- A placed order meets the opposite orders of its instrument.
use Rattle.std.specs.Prelude.{ℕ, zero, suc, ◌-◌, min, Bool, true, false, cond, not, ◌&&◌, List, [], ◌∷◌, ◌++◌, ℤ, Ok, Err, Result, ◌==◌, int_lt, nat_lt}
use Rattle.terms.specs.declared.Order.{Order}
use Rattle.terms.specs.declared.Side.{Side}
use Rattle.terms.specs.declared.Side.TheVariants.{Bid, Offer}
use Rattle.terms.specs.declared.Term.{Term}
use Rattle.terms.specs.declared.Term.TheVariants.{Day, Immediate}
use Rattle.row.specs.Rates.{precedes}
use Rattle.row.specs.Rows.{inserted}
use Rattle.margin.specs.declared.refusal.KeeperRefusal.{KeeperRefusal}
use Rattle.margin.specs.Sheets.{Charge, need_with, after_trade}
use Rattle.market.specs.declared.events.Event.{Event}
use Rattle.market.specs.declared.events.Event.TheVariants.{Traded}
use Rattle.market.specs.declared.events.Reason.{Reason}
use Rattle.market.specs.declared.events.Reason.TheVariants.{NotMetAtOnce, OwnOrder, TurnedToReduction, NeedNotLowered}
use Rattle.market.specs.declared.events.Trade.{Trade}
use Rattle.market.specs.declared.orders.NewOrder.{NewOrder}
use Rattle.market.specs.Markets.{Market, Told, with_rows, with_given, with_sheet, put_row}
use Rattle.market.specs.Cancels.{cancelled}
use Rattle.market.specs.Modes.{is_reduction, need, has_fallen, judge}

abbrev pub opposite : Side → Side
opposite Bid = Offer
opposite Offer = Bid

-- The first value for a bid, the second for an offer.
abbrev pub by_side : {A : Type 0} → Side → A → A → A
by_side Bid a b = a
by_side Offer a b = b

-- The bid's rate is below the offer's: the two orders do not meet.
abbrev pub apart : Side → ℤ → ℤ → Bool
apart Bid placed pending = int_lt placed pending
apart Offer placed pending = int_lt pending placed

-- A placed order as a pending one, with what is left of it.
abbrev pub order_of : ℕ → NewOrder → ℕ → Order
order_of number new lots = record { rate = new.rate; number = number; member = new.member; lots = lots }

-- A trade is at the rate of the order that was pending.
abbrev pub trade_of : ℕ → NewOrder → Order → ℕ → Trade
trade_of number new pending lots =
    record {
      instrument = new.instrument;
      buyer = by_side new.side new.member pending.member;
      buy_number = by_side new.side number pending.number;
      seller = by_side new.side pending.member new.member;
      sell_number = by_side new.side pending.number number;
      rate = pending.rate;
      lots = lots;
    }

-- What is left of a row whose first order was filled by so many lots.
abbrev pub row_filled : Order → ℕ → List Order → List Order
row_filled first lots others =
    cond (nat_lt lots first.lots)
    (record { rate = first.rate; number = first.number; member = first.member; lots = first.lots - lots } ∷ others)
    others

-- The cancel of a placed order's rest. A rest of 0 lots is no rest.
abbrev pub rest_cancelled : ℕ → NewOrder → Reason → ℕ → List Event
rest_cancelled number new reason rest = cond (nat_lt 0 rest) (cancelled reason (order_of number new rest) ∷ []) []

-- A placed order on its way: what is left of it, whether it goes on to meet, and what was told so far.
pub record Meeting : Type 0 where
  pub market : Market
  pub rest : ℕ
  pub meets : Bool
  pub events : List Event

-- Meeting ends, and the rest stays.
abbrev pub ends : Meeting → Meeting
ends s = record { market = s.market; rest = s.rest; meets = false; events = s.events }

-- Meeting ends, and the rest is cancelled.
abbrev pub ends_cancelled : ℕ → NewOrder → Reason → Meeting → Meeting
ends_cancelled number new reason s =
    record { market = s.market; rest = 0; meets = false; events = s.events ++ rest_cancelled number new reason s.rest }

unfoldable pub repeated : {A : Type 0} → ℕ → (A → A) → A → A
repeated zero step a = a
repeated (suc n) step a = repeated n step (step a)

-- What the keeper would refuse to record lowers nothing.
abbrev pub is_below : Result ℕ KeeperRefusal → ℕ → Bool
is_below (Ok with_lots) need = nat_lt with_lots need
is_below (Err refusal) need = false

module _ (charge : Charge) (reach : ℕ) where
  -- Whether so many lots of an order would lower its member's need.
  abbrev pub lowers_need : Market → NewOrder → ℕ → Bool
  lowers_need M new lots =
      is_below (need_with charge reach M.sheet new.member new.instrument new.side lots) (need charge M new.member)

  -- A member in reduction mode may only trade what lowers its need.
  abbrev pub is_hindered : Market → NewOrder → ℕ → Bool
  is_hindered M new lots = is_reduction (M.members new.member).mode && not (lowers_need M new lots)

  -- The lots leave the pending order, and the keeper records both sides.
  abbrev pub after_fill : Market → NewOrder → Order → List Order → ℕ → Market
  after_fill M new pending others lots =
      with_sheet (with_rows M (put_row M.rows (opposite new.side) new.instrument (row_filled pending lots others)))
      (after_trade reach M.sheet (by_side new.side new.member pending.member) (by_side new.side pending.member new.member) new.instrument lots)

  -- A fill: the trade; then the placing member is judged, and if it falls its rest is cancelled after its pending orders; then the other is judged.
  abbrev pub fill : ℕ → NewOrder → Meeting → Order → List Order → Meeting
  fill number new s pending others =
      let lots = min s.rest pending.lots in
      let traded = after_fill s.market new pending others lots in
      let placing = judge charge traded new.member in
      let other = judge charge placing.market pending.member in
      let fallen = has_fallen charge traded new.member in
      let rest = s.rest - lots in
      record {
        market = other.market;
        rest = cond fallen 0 rest;
        meets = not fallen && nat_lt 0 rest;
        events =
            s.events
            ++ (Traded (trade_of number new pending lots)
            ∷ (placing.events ++ (cond fallen (rest_cancelled number new TurnedToReduction rest) [] ++ other.events)));
      }

  -- The placed order comes to the first of the opposite row.
  abbrev pub meeting_first : ℕ → NewOrder → Meeting → List Order → Meeting
  meeting_first number new s [] = ends s
  meeting_first number new s (pending ∷ others) =
      cond (apart new.side new.rate pending.rate) (ends s)
      (cond (new.member == pending.member) (ends_cancelled number new OwnOrder s)
      (cond (is_hindered s.market new (min s.rest pending.lots)) (ends_cancelled number new NeedNotLowered s)
      (fill number new s pending others)))

  abbrev pub turn : ℕ → NewOrder → Meeting → Meeting
  turn number new s =
      cond s.meets (meeting_first number new s (s.market.rows (opposite new.side) new.instrument)) s

  -- Every turn that goes on takes a lot at least, so an order has no more turns than lots.
  abbrev pub met : ℕ → NewOrder → Market → Meeting
  met number new M =
      repeated new.lots (turn number new) (record { market = M; rest = new.lots; meets = true; events = [] })

-- A day order's rest becomes pending.
abbrev pub stored : ℕ → NewOrder → Market → ℕ → Market
stored number new M rest =
    with_rows M
    (put_row M.rows new.side new.instrument
    (inserted (precedes new.side) (order_of number new rest) (M.rows new.side new.instrument)))

abbrev pub settled_by : Term → ℕ → NewOrder → Meeting → Told
settled_by Day number new s = record { market = stored number new s.market s.rest; events = s.events }
settled_by Immediate number new s =
    record { market = s.market; events = s.events ++ rest_cancelled number new NotMetAtOnce s.rest }

abbrev pub settled : ℕ → NewOrder → Meeting → Told
settled number new s =
    cond (nat_lt 0 s.rest) (settled_by new.term number new s) (record { market = s.market; events = s.events })

abbrev pub placed : Charge → ℕ → Market → NewOrder → Told
placed charge reach M new =
    settled (suc M.given) new (met charge reach (suc M.given) new (with_given M (suc M.given)))

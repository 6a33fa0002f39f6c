-- Whom a placed order meets, and where it stops.
use Rattle.std.specs.Prelude.{◌≡◌, ℕ, List, [], ◌∷◌, negsuc}
use Rattle.terms.specs.declared.Order.{Order}
use Rattle.terms.specs.declared.Side.TheVariants.{Bid, Offer}
use Rattle.terms.specs.declared.Term.TheVariants.{Day, Immediate}
use Rattle.market.specs.declared.calls.Call.{Call}
use Rattle.market.specs.declared.calls.Call.TheVariants.{AskStanding}
use Rattle.market.specs.declared.events.Event.{Event}
use Rattle.market.specs.declared.events.Reason.TheVariants.{NotMetAtOnce, OwnOrder, TurnedToReduction, NeedNotLowered as NotLowered}
use Rattle.market.specs.declared.members.Mode.TheVariants.{Reduction, Normal}
use Rattle.market.specs.Markets.{Market, with_given}
use Rattle.worked.specs.Venues.{member_in, member_for_20_lots, instrument, venue, with_row, with_lots, pending_in_all, ◌by◌, pending, order_at, order, outcome, answer_on, run, left_by, told, standing, trade_at, trade, cancel}

abbrev pub two_members : Market
two_members = venue (member_for_20_lots ∷ member_for_20_lots ∷ []) (instrument ∷ [])

abbrev pub told_by : List Call → List Event
told_by calls = told (run two_members calls)

abbrev pub pending_after : List Call → List Order
pending_after calls = pending_in_all (left_by two_members calls)

-- ---- who is met first

abbrev pub offer_meets_bids : List Call
offer_meets_bids =
    order 0 Bid Day 60000 2 ∷ order 0 Bid Day 61000 3 ∷ order 0 Bid Day 61000 4 ∷ order 1 Offer Day 60000 8 ∷ []

-- At -100 and at -200.
abbrev pub bid_meets_offers : List Call
bid_meets_offers =
    order_at (negsuc 99) 0 0 Offer Day 2
    ∷ order_at (negsuc 199) 0 0 Offer Day 3
    ∷ order_at (negsuc 99) 0 1 Bid Immediate 4
    ∷ []

abbrev pub bids_below_an_offer : List Call
bids_below_an_offer = order 0 Offer Day 61000 5 ∷ order 1 Bid Day 60999 6 ∷ order 1 Bid Immediate 60999 7 ∷ []

abbrev pub offer_above_a_bid : List Call
offer_above_a_bid = order 0 Bid Day 60999 5 ∷ order 1 Offer Immediate 61000 7 ∷ []

abbrev pub larger_day_order : List Call
larger_day_order = order 0 Bid Day 61000 5 ∷ order 1 Offer Day 61000 7 ∷ []

pub record Precedence : Type 0 where
  -- A trade is at the rate of the order that was pending.
  pub higher_bid_then_lower_number :
      told_by offer_meets_bids
      ≡ trade (2 by 0) (4 by 1) 61000 3 ∷ trade (3 by 0) (4 by 1) 61000 4 ∷ trade (1 by 0) (4 by 1) 60000 1 ∷ []
  pub pending_order_keeps_what_is_left : pending_after offer_meets_bids ≡ pending (1 by 0) 60000 1 ∷ []
  pub lower_offer_first :
      told_by bid_meets_offers ≡ trade_at (negsuc 199) 0 (3 by 1) (2 by 0) 3 ∷ trade_at (negsuc 99) 0 (3 by 1) (1 by 0) 1 ∷ []
  pub bids_below_an_offer_do_not_meet_it : told_by bids_below_an_offer ≡ cancel (3 by 1) 7 NotMetAtOnce ∷ []
  pub day_orders_stay_pending : pending_after bids_below_an_offer ≡ pending (2 by 1) 60999 6 ∷ pending (1 by 0) 61000 5 ∷ []
  pub offer_above_a_bid_does_not_meet_it : told_by offer_above_a_bid ≡ cancel (2 by 1) 7 NotMetAtOnce ∷ []
  pub rest_of_a_day_order_becomes_pending : pending_after larger_day_order ≡ pending (2 by 1) 61000 2 ∷ []

-- ---- one's own order

-- Behind member 0's bid stands one of member 1's that the offer would meet.
abbrev pub comes_to_its_own : List Call
comes_to_its_own =
    order 1 Bid Day 61100 2 ∷ order 0 Bid Day 61000 5 ∷ order 1 Bid Day 61000 5 ∷ order 0 Offer Day 60900 7 ∷ []

abbrev pub its_own_is_first : List Call
its_own_is_first = order 0 Bid Day 61000 5 ∷ order 1 Bid Day 61000 5 ∷ order 0 Offer Immediate 61000 7 ∷ []

-- Its own bid is below its offer, so the two do not meet.
abbrev pub its_own_is_apart : List Call
its_own_is_apart = order 0 Bid Day 60000 5 ∷ order 0 Offer Day 61000 7 ∷ []

pub record OwnOrderCancels : Type 0 where
  pub rest_cancelled : told_by comes_to_its_own ≡ trade (1 by 1) (4 by 0) 61100 2 ∷ cancel (4 by 0) 5 OwnOrder ∷ []
  pub both_bids_stay : pending_after comes_to_its_own ≡ pending (2 by 0) 61000 5 ∷ pending (3 by 1) 61000 5 ∷ []
  pub whole_order_cancelled : told_by its_own_is_first ≡ cancel (3 by 0) 7 OwnOrder ∷ []
  pub nothing_cancelled_apart : told_by its_own_is_apart ≡ []
  pub both_pending_apart : pending_after its_own_is_apart ≡ pending (1 by 0) 60000 5 ∷ pending (2 by 0) 61000 7 ∷ []

-- ---- a member in reduction mode

-- Member 0 has sold 10 lots of instrument 0 and so many of 1. These offers are pending in instrument 0, and three numbers are given out.
abbrev pub in_reduction : ℕ → ℕ → List Order → Market
in_reduction deposit sold-in-1 offers =
    with_given
    (with_row
    (with_lots
    (with_lots (venue (member_in Reduction 20 deposit ∷ member_for_20_lots ∷ []) (instrument ∷ instrument ∷ [])) 0 Offer 0 10)
    0 Offer 1 sold-in-1)
    Offer 0 offers)
    3

abbrev pub three_offers : List Order
three_offers = pending (1 by 1) 61200 8 ∷ pending (2 by 1) 61250 2 ∷ pending (3 by 1) 61300 9 ∷ []

abbrev pub second_offer_its_own : List Order
second_offer_its_own = pending (1 by 1) 61200 8 ∷ pending (2 by 0) 61300 9 ∷ []

abbrev pub bid_for_14 : ℕ → Call
bid_for_14 rate = order 0 Bid Immediate rate 14

-- Member 0 has sold 20 lots, and needs 4,000.
abbrev pub twenty_sold : Market
twenty_sold =
    with_given
    (with_row
    (with_lots (venue (member_in Reduction 30 3000 ∷ member_for_20_lots ∷ []) (instrument ∷ [])) 0 Offer 0 20)
    Offer 0 (pending (1 by 1) 61200 16 ∷ pending (2 by 1) 61300 9 ∷ []))
    2

pub record NeedNotLoweredCancels : Type 0 where
  -- All 14 lots would lower the need of 3,000 to 2,800. The first 8 lower it to 2,200 and 2 more to 2,000; the next 4 would raise it.
  pub rest_cancelled :
      (outcome (in_reduction 2200 5 three_offers) (bid_for_14 61300)).events
      ≡ trade (4 by 0) (1 by 1) 61200 8 ∷ trade (4 by 0) (2 by 1) 61250 2 ∷ cancel (4 by 0) 4 NotLowered ∷ []
  pub still_in_reduction :
      answer_on (outcome (in_reduction 2200 5 three_offers) (bid_for_14 61300)).market (AskStanding 0)
      ≡ standing 2000 2200 Reduction
  -- Where the rates do not meet, the need is not asked for.
  pub third_offer_apart :
      (outcome (in_reduction 2200 5 three_offers) (bid_for_14 61299)).events
      ≡ trade (4 by 0) (1 by 1) 61200 8 ∷ trade (4 by 0) (2 by 1) 61250 2 ∷ cancel (4 by 0) 4 NotMetAtOnce ∷ []
  -- Nor at one's own order. (In no run has a member in reduction mode an order pending.)
  pub second_offer_own :
      (outcome (in_reduction 2200 5 second_offer_its_own) (bid_for_14 61300)).events
      ≡ trade (4 by 0) (1 by 1) 61200 8 ∷ cancel (4 by 0) 6 OwnOrder ∷ []
  -- Here the first 8 turn the member to normal mode, and it may raise its need again.
  pub goes_on_when_normal :
      (outcome (in_reduction 2000 0 three_offers) (bid_for_14 61300)).events
      ≡ trade (4 by 0) (1 by 1) 61200 8 ∷ trade (4 by 0) (2 by 1) 61250 2 ∷ trade (4 by 0) (3 by 1) 61300 4 ∷ []
  pub normal_again :
      answer_on (outcome (in_reduction 2000 0 three_offers) (bid_for_14 61300)).market (AskStanding 0) ≡ standing 1800 2000 Normal
  -- With 16 more the need is 2,400 and the mode normal; with 9 more it is 3,000, and the mode is reduction again.
  pub turns_to_reduction_again :
      (outcome twenty_sold (order 0 Bid Immediate 61300 28)).events
      ≡ trade (3 by 0) (1 by 1) 61200 16 ∷ trade (3 by 0) (2 by 1) 61300 9 ∷ cancel (3 by 0) 3 TurnedToReduction ∷ []

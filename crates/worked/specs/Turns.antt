-- A fill after which a member turns to reduction mode: it loses its pending orders, and its rest if it is the one that places.
use Rattle.std.specs.Prelude.{◌≡◌, ℕ, List, [], ◌∷◌}
use Rattle.terms.specs.declared.Side.TheVariants.{Bid, Offer}
use Rattle.terms.specs.declared.Term.{Term}
use Rattle.terms.specs.declared.Term.TheVariants.{Day, Immediate}
use Rattle.market.specs.declared.calls.Call.{Call}
use Rattle.market.specs.declared.events.Reason.TheVariants.{TurnedToReduction}
use Rattle.market.specs.declared.members.Mode.TheVariants.{Reduction, Normal}
use Rattle.market.specs.Markets.{Market}
use Rattle.worked.specs.Venues.{member_in, member_for_20_lots, instrument, venue, pending_in_all, ◌by◌, pending, order_in, order, run, left_by, told, standing, standings, trade, cancel}

-- 10 lots need 2,000: all of the smaller deposit here, and little of the larger.
abbrev pub smaller : ℕ
smaller = 2000

abbrev pub larger : ℕ
larger = 1000000

abbrev pub members_with : ℕ → ℕ → Market
members_with deposit-0 deposit-1 =
    venue
    (member_in Normal 20 deposit-0 ∷ member_in Normal 20 deposit-1 ∷ member_for_20_lots ∷ [])
    (instrument ∷ instrument ∷ instrument ∷ [])

-- ---- both turn

-- Members 0 and 1 each have the lower number in the higher instrument. Member 2's bid would meet what is left of the last order.
abbrev pub both_lose_orders : List Call
both_lose_orders =
    order_in 0 0 Bid Day 61000 10
    ∷ order_in 2 1 Bid Day 50000 3
    ∷ order_in 1 1 Offer Day 70000 4
    ∷ order_in 2 0 Offer Day 70000 2
    ∷ order_in 1 0 Bid Day 50000 1
    ∷ order_in 0 2 Bid Day 60950 5
    ∷ order_in 0 1 Offer Day 60900 15
    ∷ []

pub record BothTurn : Type 0 where
  -- The trade; of the placing member its orders by number, then its rest; of the other its orders by number.
  pub told_in_sequence :
      told (run (members_with smaller smaller) both_lose_orders)
      ≡ trade (1 by 0) (7 by 1) 61000 10
      ∷ cancel (2 by 1) 3 TurnedToReduction
      ∷ cancel (3 by 1) 4 TurnedToReduction
      ∷ cancel (7 by 1) 5 TurnedToReduction
      ∷ cancel (4 by 0) 2 TurnedToReduction
      ∷ cancel (5 by 0) 1 TurnedToReduction
      ∷ []
  pub third_members_order_left :
      pending_in_all (left_by (members_with smaller smaller) both_lose_orders) ≡ pending (6 by 2) 60950 5 ∷ []
  pub standings_after :
      standings (left_by (members_with smaller smaller) both_lose_orders)
      ≡ standing 2000 2000 Reduction ∷ standing 2000 2000 Reduction ∷ standing 0 1000000000 Normal ∷ []

-- ---- one turns

-- Member 1's offer of 15 lots comes to two bids of member 0, then to one of member 2.
abbrev pub offer_of_15 : Term → List Call
offer_of_15 term =
    order 0 Bid Day 61000 10 ∷ order 0 Bid Day 60950 3 ∷ order 2 Bid Day 60900 4 ∷ order 1 Offer term 60900 15 ∷ []

-- Member 1's offer is less than member 0's bid.
abbrev pub offer_of_10 : List Call
offer_of_10 = order 0 Bid Day 61000 15 ∷ order 1 Offer Day 61000 10 ∷ []

pub record OneTurns : Type 0 where
  -- The other member turns: its second bid is cancelled before it is met, and the offer goes on.
  pub other_member_told :
      told (run (members_with smaller larger) (offer_of_15 Day))
      ≡ trade (1 by 0) (4 by 1) 61000 10
      ∷ cancel (2 by 0) 3 TurnedToReduction
      ∷ trade (3 by 2) (4 by 1) 60900 4
      ∷ []
  pub other_member_left : pending_in_all (left_by (members_with smaller larger) (offer_of_15 Day)) ≡ pending (4 by 1) 60900 1 ∷ []
  pub other_member_loses_what_is_left :
      told (run (members_with smaller larger) offer_of_10)
      ≡ trade (1 by 0) (2 by 1) 61000 10 ∷ cancel (1 by 0) 5 TurnedToReduction ∷ []
  -- The placing member turns: it meets nobody else, and the other keeps its second bid.
  pub placing_member_told :
      told (run (members_with larger smaller) (offer_of_15 Day))
      ≡ trade (1 by 0) (4 by 1) 61000 10 ∷ cancel (4 by 1) 5 TurnedToReduction ∷ []
  pub placing_member_told_of_an_immediate_order :
      told (run (members_with larger smaller) (offer_of_15 Immediate))
      ≡ trade (1 by 0) (4 by 1) 61000 10 ∷ cancel (4 by 1) 5 TurnedToReduction ∷ []
  pub placing_member_left :
      pending_in_all (left_by (members_with larger smaller) (offer_of_15 Day))
      ≡ pending (2 by 0) 60950 3 ∷ pending (3 by 2) 60900 4 ∷ []

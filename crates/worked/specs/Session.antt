-- The worked session: one instrument, three members, six orders.
use Rattle.std.specs.Prelude.{◌≡◌, List, [], ◌∷◌, Ok, Err}
use Rattle.terms.specs.declared.Side.TheVariants.{Bid, Offer}
use Rattle.terms.specs.declared.Term.TheVariants.{Day, Immediate}
use Rattle.market.specs.declared.calls.Answer.TheVariants.{Done}
use Rattle.market.specs.declared.calls.Call.{Call}
use Rattle.market.specs.declared.calls.Call.TheVariants.{Admit, Define, Open, Deposit}
use Rattle.market.specs.declared.events.Reason.TheVariants.{NotMetAtOnce}
use Rattle.market.specs.declared.members.Mode.TheVariants.{Normal}
use Rattle.market.specs.declared.refusals.Refusal.TheVariants.{DayOrderInReduction}
use Rattle.market.specs.Markets.{fresh_market}
use Rattle.worked.specs.Venues.{limits_of, pending_in_all, ◌by◌, order, run, left_by, answers, told, placed, standing, standings, trade, cancel}

abbrev pub session_calls : List Call
session_calls =
    Define 0 0 1 100
    ∷ Admit 0 1 (limits_of 10)
    ∷ Admit 1 1 (limits_of 10)
    ∷ Admit 2 1 (limits_of 10)
    ∷ Deposit 0 10000
    ∷ Deposit 1 10000
    ∷ Deposit 2 2000
    ∷ Open
    ∷ order 0 Bid Day 61000 5
    ∷ order 1 Bid Day 61000 5
    ∷ order 2 Offer Day 60900 10
    ∷ order 2 Bid Day 60000 1
    ∷ order 1 Offer Day 61200 4
    ∷ order 2 Bid Immediate 61200 6
    ∷ []

pub record WorkedSession : Type 0 where
  -- Having sold 10 lots, member 2 needs its whole deposit of 2,000: it is in reduction mode when it places the fourth order.
  pub answered :
      answers (run fresh_market session_calls)
      ≡ Ok Done
      ∷ Ok Done
      ∷ Ok Done
      ∷ Ok Done
      ∷ Ok Done
      ∷ Ok Done
      ∷ Ok Done
      ∷ Ok Done
      ∷ placed 1 0
      ∷ placed 2 0
      ∷ placed 3 2
      ∷ Err DayOrderInReduction
      ∷ placed 4 0
      ∷ placed 5 2
      ∷ []
  pub told_in_sequence :
      told (run fresh_market session_calls)
      ≡ trade (1 by 0) (3 by 2) 61000 5
      ∷ trade (2 by 1) (3 by 2) 61000 5
      ∷ trade (5 by 2) (4 by 1) 61200 4
      ∷ cancel (5 by 2) 2 NotMetAtOnce
      ∷ []
  pub standings_after :
      standings (left_by fresh_market session_calls)
      ≡ standing 1000 10000 Normal ∷ standing 600 10000 Normal ∷ standing 1600 2000 Normal ∷ []
  pub nothing_left_pending : pending_in_all (left_by fresh_market session_calls) ≡ []

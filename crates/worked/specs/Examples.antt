-- The rules on worked examples. Each is proved by computing both sides.
use Rattle.wire.specs.Trips.{WorkedMessages}
use Rattle.worked.specs.Amounts.{Charges, Modes}
use Rattle.worked.specs.OrderLimits.{OrderLimits}
use Rattle.worked.specs.Session.{WorkedSession}
use Rattle.worked.specs.Meetings.{Precedence, OwnOrderCancels, NeedNotLoweredCancels}
use Rattle.worked.specs.Turns.{BothTurn, OneTurns}
use Rattle.worked.specs.Cancels.{Cancels, Numbers}
use Rattle.worked.specs.PlaceGrounds.{PlaceGrounds}
use Rattle.worked.specs.OtherGrounds.{OtherGrounds, Phases}
use Rattle.worked.specs.Edges.{SetUpEdges, DepositEdges, WithdrawEdges, PlaceEdges, ReachEdges, ReductionEdges, CountEdges}
use Rattle.worked.specs.Questions.{Questions}

pub record WorkedExamples : Type 0 where
  pub charges : Charges
  pub modes : Modes
  pub order_limits : OrderLimits
  pub messages : WorkedMessages
  pub session : WorkedSession
  pub precedence : Precedence
  pub own_order : OwnOrderCancels
  pub need_not_lowered : NeedNotLoweredCancels
  pub both_turn : BothTurn
  pub one_turns : OneTurns
  pub cancels : Cancels
  pub numbers : Numbers
  pub place_grounds : PlaceGrounds
  pub other_grounds : OtherGrounds
  pub phases : Phases
  pub set_up_edges : SetUpEdges
  pub deposit_edges : DepositEdges
  pub withdraw_edges : WithdrawEdges
  pub place_edges : PlaceEdges
  pub reach_edges : ReachEdges
  pub reduction_edges : ReductionEdges
  pub count_edges : CountEdges
  pub questions : Questions

-- Cancels that are asked for, the close, and the numbers of the words that have one.
use Rattle.std.specs.Prelude.{◌≡◌, List, [], ◌∷◌, map, Err, Some, None}
use Rattle.terms.specs.declared.Side.TheVariants.{Bid, Offer}
use Rattle.terms.specs.declared.Term.TheVariants.{Day}
use Rattle.wire.specs.declared.request.MessageRefusal.TheVariants.{NotEightBytes, NotLegal}
use Rattle.wire.specs.Messages.{refusal_number as message_refusal_number}
use Rattle.market.specs.declared.calls.Call.{Call}
use Rattle.market.specs.declared.calls.Call.TheVariants.{Cancel, CancelAll, Close}
use Rattle.market.specs.declared.events.Reason.TheVariants.{Asked, NotMetAtOnce, OwnOrder, TurnedToReduction, NeedNotLowered as NotLowered, Closing}
use Rattle.market.specs.declared.instruments.Benchmark.TheVariants.{Mibor, Mmfor}
use Rattle.market.specs.declared.instruments.TenorGroup.TheVariants.{UpToOneYear, UpToFiveYears, OverFiveYears}
use Rattle.market.specs.declared.members.Benchmarks.TheVariants.{Mibor as OnlyMibor, Mmfor as OnlyMmfor, Both}
use Rattle.market.specs.declared.refusals.Refusal.TheVariants.{ListTooShort, WrongPhase, NoSuchMember, NoSuchInstrument, AlreadyThere, ValueOutOfRange, AmountOutOfRange, DepositNeeded, BenchmarkNotOpted, LotsOutOfRange, RateOutOfRange, AccumulatedLimitPassed, OverFiveYearsLimitPassed, ReachPassed, DayOrderInReduction, NeedNotLowered, NoSuchOrder, BookFull, NumbersUsedUp}
use Rattle.market.specs.Numbers.{benchmark_number, benchmark_numbered, group_number, group_numbered, benchmarks_number, benchmarks_numbered, reason_number, refusal_number}
use Rattle.market.specs.Markets.{Market}
use Rattle.worked.specs.Venues.{member_for_20_lots, instrument, venue, pending_in_all, ◌by◌, pending, order_in, run, left_by, answers, told, cancelled, cancel}

-- Of both members, in both instruments; the lowest numbers are in the higher instrument.
abbrev pub six_orders : List Call
six_orders =
    order_in 1 0 Bid Day 50000 1
    ∷ order_in 1 1 Offer Day 70000 2
    ∷ order_in 0 0 Offer Day 70000 3
    ∷ order_in 0 0 Bid Day 50000 4
    ∷ order_in 0 1 Bid Day 50000 5
    ∷ order_in 0 0 Offer Day 70000 6
    ∷ []

abbrev pub six_pending : Market
six_pending = left_by (venue (member_for_20_lots ∷ member_for_20_lots ∷ []) (instrument ∷ instrument ∷ [])) six_orders

-- A second cancel of the same order, and one of another member's, find none.
abbrev pub cancels_and_close : List Call
cancels_and_close = Cancel 0 4 ∷ Cancel 0 4 ∷ Cancel 0 5 ∷ CancelAll 0 ∷ CancelAll 0 ∷ Close ∷ CancelAll 1 ∷ []

pub record Cancels : Type 0 where
  pub answered :
      answers (run six_pending cancels_and_close)
      ≡ cancelled 1 ∷ Err NoSuchOrder ∷ Err NoSuchOrder ∷ cancelled 3 ∷ cancelled 0 ∷ cancelled 2 ∷ Err WrongPhase ∷ []
  pub told_lowest_number_first :
      told (run six_pending cancels_and_close)
      ≡ cancel (4 by 0) 4 Asked
      ∷ cancel (1 by 0) 1 Asked
      ∷ cancel (3 by 0) 3 Asked
      ∷ cancel (6 by 0) 6 Asked
      ∷ cancel (2 by 1) 2 Closing
      ∷ cancel (5 by 1) 5 Closing
      ∷ []
  pub five_left_by_cancel :
      pending_in_all (left_by six_pending (Cancel 0 4 ∷ []))
      ≡ pending (5 by 1) 50000 5
      ∷ pending (3 by 0) 70000 3
      ∷ pending (6 by 0) 70000 6
      ∷ pending (1 by 0) 50000 1
      ∷ pending (2 by 1) 70000 2
      ∷ []
  pub other_members_left_by_cancel_all :
      pending_in_all (left_by six_pending (CancelAll 0 ∷ [])) ≡ pending (5 by 1) 50000 5 ∷ pending (2 by 1) 70000 2 ∷ []
  pub none_left_by_close : pending_in_all (left_by six_pending (Close ∷ [])) ≡ []

pub record Numbers : Type 0 where
  pub benchmarks : map benchmark_number (Mibor ∷ Mmfor ∷ []) ≡ 0 ∷ 1 ∷ []
  pub benchmarks_read : map benchmark_numbered (0 ∷ 1 ∷ 2 ∷ []) ≡ Some Mibor ∷ Some Mmfor ∷ None ∷ []
  pub groups : map group_number (UpToOneYear ∷ UpToFiveYears ∷ OverFiveYears ∷ []) ≡ 0 ∷ 1 ∷ 2 ∷ []
  pub groups_read :
      map group_numbered (0 ∷ 1 ∷ 2 ∷ 3 ∷ []) ≡ Some UpToOneYear ∷ Some UpToFiveYears ∷ Some OverFiveYears ∷ None ∷ []
  -- What a member opts for is numbered from 1, unlike the benchmark of an instrument.
  pub opted_benchmarks : map benchmarks_number (OnlyMibor ∷ OnlyMmfor ∷ Both ∷ []) ≡ 1 ∷ 2 ∷ 3 ∷ []
  pub opted_benchmarks_read :
      map benchmarks_numbered (0 ∷ 1 ∷ 2 ∷ 3 ∷ 4 ∷ [])
      ≡ None ∷ Some OnlyMibor ∷ Some OnlyMmfor ∷ Some Both ∷ None ∷ []
  pub reasons :
      map reason_number (Asked ∷ NotMetAtOnce ∷ OwnOrder ∷ TurnedToReduction ∷ NotLowered ∷ Closing ∷ [])
      ≡ 1 ∷ 2 ∷ 3 ∷ 4 ∷ 5 ∷ 6 ∷ []
  pub refusals_of_messages : map message_refusal_number (NotEightBytes ∷ NotLegal ∷ []) ≡ 1 ∷ 2 ∷ []
  pub refusals_up_to_the_deposit :
      map refusal_number
      (ListTooShort
      ∷ WrongPhase
      ∷ NoSuchMember
      ∷ NoSuchInstrument
      ∷ AlreadyThere
      ∷ ValueOutOfRange
      ∷ AmountOutOfRange
      ∷ DepositNeeded
      ∷ [])
      ≡ 3 ∷ 4 ∷ 5 ∷ 6 ∷ 7 ∷ 8 ∷ 9 ∷ 10 ∷ []
  pub refusals_of_orders :
      map refusal_number
      (BenchmarkNotOpted
      ∷ LotsOutOfRange
      ∷ RateOutOfRange
      ∷ AccumulatedLimitPassed
      ∷ OverFiveYearsLimitPassed
      ∷ ReachPassed
      ∷ DayOrderInReduction
      ∷ NeedNotLowered
      ∷ NoSuchOrder
      ∷ BookFull
      ∷ NumbersUsedUp
      ∷ [])
      ≡ 11 ∷ 12 ∷ 13 ∷ 14 ∷ 15 ∷ 16 ∷ 17 ∷ 18 ∷ 19 ∷ 20 ∷ 21 ∷ []

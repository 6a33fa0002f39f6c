-- The refusals and the reasons in words, as people read them.
use Rattle.std.specs.Prelude.{ℕ, List, codes}
use Rattle.market.specs.declared.events.Reason.{Reason}
use Rattle.market.specs.declared.events.Reason.TheVariants.{Asked, NotMetAtOnce, OwnOrder, TurnedToReduction, NeedNotLowered as NotLowered, Closing}
use Rattle.market.specs.declared.refusals.Refusal.{Refusal}
use Rattle.market.specs.declared.refusals.Refusal.TheVariants.{ListTooShort, WrongPhase, NoSuchMember, NoSuchInstrument, AlreadyThere, ValueOutOfRange, AmountOutOfRange, DepositNeeded, BenchmarkNotOpted, LotsOutOfRange, RateOutOfRange, AccumulatedLimitPassed, OverFiveYearsLimitPassed, ReachPassed, DayOrderInReduction, NeedNotLowered, NoSuchOrder, BookFull, NumbersUsedUp}

abbrev pub refusal_words : Refusal → List ℕ
refusal_words ListTooShort = codes "the list has fewer than 257 places"
refusal_words WrongPhase = codes "the call does not belong to this phase"
refusal_words NoSuchMember = codes "there is no such member"
refusal_words NoSuchInstrument = codes "there is no such instrument"
refusal_words AlreadyThere = codes "it is already there"
refusal_words ValueOutOfRange = codes "a value is out of range"
refusal_words AmountOutOfRange = codes "the amount is out of range"
refusal_words DepositNeeded = codes "the deposit is needed as margin"
refusal_words BenchmarkNotOpted = codes "the member has not opted for this benchmark"
refusal_words LotsOutOfRange = codes "the lots are 0 or pass the single order limit"
refusal_words RateOutOfRange = codes "the rate is out of range"
refusal_words AccumulatedLimitPassed = codes "the accumulated order limit is passed"
refusal_words OverFiveYearsLimitPassed = codes "the limit on orders of over five years is passed"
refusal_words ReachPassed = codes "the lots on this side pass what the margin keeper can hold"
refusal_words DayOrderInReduction = codes "no day orders in reduction mode"
refusal_words NeedNotLowered = codes "in reduction mode an order has to lower the need"
refusal_words NoSuchOrder = codes "the member has no pending order of this number"
refusal_words BookFull = codes "256 orders are pending"
refusal_words NumbersUsedUp = codes "all order numbers are given out"

abbrev pub reason_words : Reason → List ℕ
reason_words Asked = codes "asked for by the member"
reason_words NotMetAtOnce = codes "immediate order not met at once"
reason_words OwnOrder = codes "came to an order of the same member"
reason_words TurnedToReduction = codes "member turned to reduction mode"
reason_words NotLowered = codes "would not lower the need in reduction mode"
reason_words Closing = codes "the venue closed"

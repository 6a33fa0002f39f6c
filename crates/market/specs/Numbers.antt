-- The numbers of the market's words: one definition by case for each.
use Rattle.std.specs.Prelude.{ℕ, cond, Some, None, Ok, Err, Option, Result, ◌==◌}
use Rattle.market.specs.declared.instruments.Benchmark.{Benchmark}
use Rattle.market.specs.declared.instruments.Benchmark.TheVariants.{Mibor, Mmfor}
use Rattle.market.specs.declared.instruments.TenorGroup.{TenorGroup}
use Rattle.market.specs.declared.instruments.TenorGroup.TheVariants.{UpToOneYear, UpToFiveYears, OverFiveYears}
use Rattle.market.specs.declared.members.Benchmarks.{Benchmarks}
use Rattle.market.specs.declared.members.Benchmarks.TheVariants.{Mibor as OnlyMibor, Mmfor as OnlyMmfor, Both}
use Rattle.market.specs.declared.events.Reason.{Reason}
use Rattle.market.specs.declared.events.Reason.TheVariants.{Asked, NotMetAtOnce, OwnOrder, TurnedToReduction, NeedNotLowered as NotLowered, Closing}
use Rattle.market.specs.declared.numbers.UnknownNumber.{UnknownNumber}
use Rattle.market.specs.declared.refusals.Refusal.{Refusal}
use Rattle.market.specs.declared.refusals.Refusal.TheVariants.{ListTooShort, WrongPhase, NoSuchMember, NoSuchInstrument, AlreadyThere, ValueOutOfRange, AmountOutOfRange, DepositNeeded, BenchmarkNotOpted, LotsOutOfRange, RateOutOfRange, AccumulatedLimitPassed, OverFiveYearsLimitPassed, ReachPassed, DayOrderInReduction, NeedNotLowered, NoSuchOrder, BookFull, NumbersUsedUp}

-- What a number is read as, the number itself being the error.
abbrev pub or_unknown : {A : Type 0} → ℕ → Option A → Result A UnknownNumber
or_unknown n None = Err (record { number = n })
or_unknown n (Some word) = Ok word

abbrev pub benchmark_number : Benchmark → ℕ
benchmark_number Mibor = 0
benchmark_number Mmfor = 1

abbrev pub benchmark_numbered : ℕ → Option Benchmark
benchmark_numbered n = cond (n == 0) (Some Mibor) (cond (n == 1) (Some Mmfor) None)

abbrev pub group_number : TenorGroup → ℕ
group_number UpToOneYear = 0
group_number UpToFiveYears = 1
group_number OverFiveYears = 2

abbrev pub group_numbered : ℕ → Option TenorGroup
group_numbered n =
    cond (n == 0) (Some UpToOneYear) (cond (n == 1) (Some UpToFiveYears) (cond (n == 2) (Some OverFiveYears) None))

abbrev pub benchmarks_number : Benchmarks → ℕ
benchmarks_number OnlyMibor = 1
benchmarks_number OnlyMmfor = 2
benchmarks_number Both = 3

abbrev pub benchmarks_numbered : ℕ → Option Benchmarks
benchmarks_numbered n =
    cond (n == 1) (Some OnlyMibor) (cond (n == 2) (Some OnlyMmfor) (cond (n == 3) (Some Both) None))

abbrev pub reason_number : Reason → ℕ
reason_number Asked = 1
reason_number NotMetAtOnce = 2
reason_number OwnOrder = 3
reason_number TurnedToReduction = 4
reason_number NotLowered = 5
reason_number Closing = 6

-- 1 and 2 are the message reader's.
abbrev pub refusal_number : Refusal → ℕ
refusal_number ListTooShort = 3
refusal_number WrongPhase = 4
refusal_number NoSuchMember = 5
refusal_number NoSuchInstrument = 6
refusal_number AlreadyThere = 7
refusal_number ValueOutOfRange = 8
refusal_number AmountOutOfRange = 9
refusal_number DepositNeeded = 10
refusal_number BenchmarkNotOpted = 11
refusal_number LotsOutOfRange = 12
refusal_number RateOutOfRange = 13
refusal_number AccumulatedLimitPassed = 14
refusal_number OverFiveYearsLimitPassed = 15
refusal_number ReachPassed = 16
refusal_number DayOrderInReduction = 17
refusal_number NeedNotLowered = 18
refusal_number NoSuchOrder = 19
refusal_number BookFull = 20
refusal_number NumbersUsedUp = 21

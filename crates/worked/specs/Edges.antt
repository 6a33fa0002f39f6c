-- The last value that passes, and the first that is refused.
use Rattle.std.specs.Prelude.{◌≡◌, ℕ, true, [], ◌∷◌, map, pos, negsuc, Ok, Err, Result}
use Rattle.terms.specs.declared.Side.TheVariants.{Bid, Offer}
use Rattle.terms.specs.declared.Term.TheVariants.{Day, Immediate}
use Rattle.market.specs.declared.calls.Answer.{Answer}
use Rattle.market.specs.declared.calls.Answer.TheVariants.{Done}
use Rattle.market.specs.declared.calls.Call.{Call}
use Rattle.market.specs.declared.calls.Call.TheVariants.{Admit, Define, Deposit, Withdraw, AskStanding}
use Rattle.market.specs.declared.calls.Phase.TheVariants.{Open as OpenPhase}
use Rattle.market.specs.declared.instruments.Benchmark.{Benchmark}
use Rattle.market.specs.declared.instruments.Benchmark.TheVariants.{Mibor, Mmfor}
use Rattle.market.specs.declared.instruments.TenorGroup.TheVariants.{UpToFiveYears, OverFiveYears}
use Rattle.market.specs.declared.members.Benchmarks.{Benchmarks}
use Rattle.market.specs.declared.members.Benchmarks.TheVariants.{Mibor as OnlyMibor, Mmfor as OnlyMmfor, Both}
use Rattle.market.specs.declared.members.Mode.{Mode}
use Rattle.market.specs.declared.members.Mode.TheVariants.{Reduction, Normal}
use Rattle.market.specs.declared.refusals.Refusal.{Refusal}
use Rattle.market.specs.declared.refusals.Refusal.TheVariants.{NoSuchMember, NoSuchInstrument, ValueOutOfRange, AmountOutOfRange, DepositNeeded, BenchmarkNotOpted, LotsOutOfRange, RateOutOfRange, ReachPassed, NeedNotLowered, BookFull, NumbersUsedUp}
use Rattle.market.specs.TableRows.{blank_member}
use Rattle.market.specs.Markets.{Market, fresh_market, with_given}
use Rattle.worked.specs.Venues.{limits, limits_of, member_in, member_with, member_for_20_lots, instrument, venue, same_at_every_number, with_row, with_lots, ◌by◌, pending, one_lot_orders, order_at, order_in, order, outcome, answer_on, placed, standing}

-- ---- admit and define

pub record SetUpEdges : Type 0 where
  pub benchmarks_1_to_3 :
      map (λ benchmarks. answer_on fresh_market (Admit 31 benchmarks (limits_of 10))) (0 ∷ 1 ∷ 2 ∷ 3 ∷ 4 ∷ [])
      ≡ Err ValueOutOfRange ∷ Ok Done ∷ Ok Done ∷ Ok Done ∷ Err ValueOutOfRange ∷ []
  pub each_limit_up_to_1000 :
      map (λ of_groups. answer_on fresh_market (Admit 31 1 of_groups))
      (limits 1000 1000 1000 ∷ limits 1001 0 0 ∷ limits 0 1001 0 ∷ limits 0 0 1001 ∷ [])
      ≡ Ok Done ∷ Err ValueOutOfRange ∷ Err ValueOutOfRange ∷ Err ValueOutOfRange ∷ []
  pub benchmark_0_or_1 :
      map (λ benchmark. answer_on fresh_market (Define 15 benchmark 0 100)) (0 ∷ 1 ∷ 2 ∷ [])
      ≡ Ok Done ∷ Ok Done ∷ Err ValueOutOfRange ∷ []
  pub group_0_to_2 :
      map (λ group. answer_on fresh_market (Define 15 0 group 100)) (0 ∷ 1 ∷ 2 ∷ 3 ∷ [])
      ≡ Ok Done ∷ Ok Done ∷ Ok Done ∷ Err ValueOutOfRange ∷ []
  pub factor_1_to_100000 :
      map (λ factor. answer_on fresh_market (Define 15 0 0 factor)) (0 ∷ 1 ∷ 100000 ∷ 100001 ∷ [])
      ≡ Err ValueOutOfRange ∷ Ok Done ∷ Ok Done ∷ Err ValueOutOfRange ∷ []
  -- A member begins with no deposit, in reduction mode.
  pub member_admitted :
      (outcome fresh_market (Admit 31 3 (limits 1 2 3))).market.members 31
      ≡ record { admitted = true; benchmarks = Both; limits = limits 1 2 3; deposit = 0; mode = Reduction }
  pub no_other_member_admitted : (outcome fresh_market (Admit 31 3 (limits 1 2 3))).market.members 30 ≡ blank_member
  pub instrument_defined :
      (outcome fresh_market (Define 15 1 2 100)).market.instruments 15
      ≡ record { defined = true; benchmark = Mmfor; group = OverFiveYears }
  pub factor_set : map (outcome fresh_market (Define 15 1 2 100)).market.sheet.factor (14 ∷ 15 ∷ []) ≡ 0 ∷ 100 ∷ []

-- ---- deposit and withdraw

abbrev pub with_deposit : Mode → ℕ → Market
with_deposit mode deposit = venue (member_in mode 10 deposit ∷ []) (instrument ∷ [])

-- 10 lots bought and 1 sold need 1,900.
abbrev pub needing_1900 : Mode → ℕ → Market
needing_1900 mode deposit = with_lots (with_lots (with_deposit mode deposit) 0 Bid 0 10) 0 Offer 0 1

abbrev pub standing_after : Market → Call → Result Answer Refusal
standing_after M call = answer_on (outcome M call).market (AskStanding 0)

pub record DepositEdges : Type 0 where
  pub amount_of_0_refused : answer_on (with_deposit Normal 1000) (Deposit 0 0) ≡ Err AmountOutOfRange
  pub up_to_ten_to_the_twelfth_passes :
      standing_after (with_deposit Normal 1) (Deposit 0 999999999999) ≡ standing 0 1000000000000 Normal
  pub one_more_refused : answer_on (with_deposit Normal 1) (Deposit 0 1000000000000) ≡ Err AmountOutOfRange
  -- A need of 1,900 is more than 90 hundredths of 2,111, and less of 2,112.
  pub stays_in_reduction_with_2111 : standing_after (needing_1900 Reduction 2000) (Deposit 0 111) ≡ standing 1900 2111 Reduction
  pub turns_to_normal_with_2112 : standing_after (needing_1900 Reduction 2000) (Deposit 0 112) ≡ standing 1900 2112 Normal

pub record WithdrawEdges : Type 0 where
  pub amount_of_0_refused : answer_on (needing_1900 Normal 3000) (Withdraw 0 0) ≡ Err AmountOutOfRange
  pub more_than_the_deposit_refused : answer_on (needing_1900 Normal 3000) (Withdraw 0 3001) ≡ Err AmountOutOfRange
  pub whole_deposit_needed : answer_on (needing_1900 Normal 3000) (Withdraw 0 3000) ≡ Err DepositNeeded
  -- A need of 1,900 is 95 hundredths of 2,000.
  pub leaving_2000_refused : answer_on (needing_1900 Normal 3000) (Withdraw 0 1000) ≡ Err DepositNeeded
  pub leaving_2001_passes : answer_on (needing_1900 Normal 3000) (Withdraw 0 999) ≡ Ok Done
  pub stays_normal_with_2001 : standing_after (needing_1900 Normal 3000) (Withdraw 0 999) ≡ standing 1900 2001 Normal
  pub in_reduction_refused : answer_on (with_deposit Reduction 3000) (Withdraw 0 1) ≡ Err DepositNeeded
  -- A member that needs nothing still leaves one half-rupee: with no deposit it would be in reduction mode.
  pub leaving_nothing_refused : answer_on (with_deposit Normal 3000) (Withdraw 0 3000) ≡ Err DepositNeeded
  pub leaving_one_passes : answer_on (with_deposit Normal 3000) (Withdraw 0 2999) ≡ Ok Done

-- ---- place

abbrev pub with_limit : ℕ → Market
with_limit limit = venue (member_with OnlyMibor (limits_of limit) ∷ []) (instrument ∷ [])

abbrev pub of_benchmarks : Benchmarks → Benchmark → Market
of_benchmarks benchmarks benchmark =
    venue (member_with benchmarks (limits_of 10) ∷ []) (record { defined = true; benchmark = benchmark; group = UpToFiveYears } ∷ [])

abbrev pub bid : ℕ → Call
bid lots = order 0 Bid Day 60000 lots

abbrev pub all_there : Market
all_there = same_at_every_number OpenPhase member_for_20_lots instrument

pub record PlaceEdges : Type 0 where
  pub member_31_passes : answer_on all_there (order 31 Bid Day 60000 5) ≡ placed 1 0
  pub member_32_refused : answer_on all_there (order 32 Bid Day 60000 5) ≡ Err NoSuchMember
  pub instrument_15_passes : answer_on all_there (order_in 15 0 Bid Day 60000 5) ≡ placed 1 0
  pub instrument_16_refused : answer_on all_there (order_in 16 0 Bid Day 60000 5) ≡ Err NoSuchInstrument
  pub mibor_member_refused_in_mmfor : answer_on (of_benchmarks OnlyMibor Mmfor) (bid 5) ≡ Err BenchmarkNotOpted
  pub mmfor_member_refused_in_mibor : answer_on (of_benchmarks OnlyMmfor Mibor) (bid 5) ≡ Err BenchmarkNotOpted
  pub mmfor_member_passes_in_mmfor : answer_on (of_benchmarks OnlyMmfor Mmfor) (bid 5) ≡ placed 1 0
  pub member_of_both_passes_in_mibor : answer_on (of_benchmarks Both Mibor) (bid 5) ≡ placed 1 0
  pub member_of_both_passes_in_mmfor : answer_on (of_benchmarks Both Mmfor) (bid 5) ≡ placed 1 0
  pub no_lots_refused : answer_on (with_limit 10) (bid 0) ≡ Err LotsOutOfRange
  pub lots_of_the_limit_pass : answer_on (with_limit 10) (bid 10) ≡ placed 1 0
  pub one_lot_more_refused : answer_on (with_limit 10) (bid 11) ≡ Err LotsOutOfRange
  pub a_thousand_lots_pass : answer_on (with_limit 1000) (bid 1000) ≡ placed 1 0
  pub a_thousand_and_one_refused : answer_on (with_limit 1000) (bid 1001) ≡ Err LotsOutOfRange
  -- No member is admitted with a limit above 1,000.
  pub a_thousand_and_one_refused_within_a_limit : answer_on (with_limit 2000) (bid 1001) ≡ Err LotsOutOfRange
  pub highest_rate_passes : answer_on (with_limit 10) (order_at (pos 500000) 0 0 Bid Day 5) ≡ placed 1 0
  pub higher_rate_refused : answer_on (with_limit 10) (order_at (pos 500001) 0 0 Bid Day 5) ≡ Err RateOutOfRange
  pub lowest_rate_passes : answer_on (with_limit 10) (order_at (negsuc 499999) 0 0 Bid Day 5) ≡ placed 1 0
  pub lower_rate_refused : answer_on (with_limit 10) (order_at (negsuc 500000) 0 0 Bid Day 5) ≡ Err RateOutOfRange

-- ---- the reach of 100,000

-- Member 0 has bought 99,985 lots and bids for 5 more. What it has sold, what it offers and what others bid for does not count.
abbrev pub near_the_reach : Market
near_the_reach =
    with_given
    (with_row
    (with_row
    (with_lots
    (with_lots (venue (member_for_20_lots ∷ member_for_20_lots ∷ []) (instrument ∷ instrument ∷ [])) 0 Bid 0 99985)
    0 Offer 0 50)
    Bid 0 (pending (1 by 0) 50000 5 ∷ pending (2 by 1) 50000 20 ∷ []))
    Offer 0 (pending (3 by 0) 70000 7 ∷ []))
    3

pub record ReachEdges : Type 0 where
  pub to_the_reach_passes : answer_on near_the_reach (bid 10) ≡ placed 4 0
  pub one_more_refused : answer_on near_the_reach (bid 11) ≡ Err ReachPassed
  pub on_the_other_side_passes : answer_on near_the_reach (order 0 Offer Day 60000 11) ≡ placed 4 0
  pub in_another_instrument_passes : answer_on near_the_reach (order_in 1 0 Bid Day 60000 11) ≡ placed 4 0
  pub of_another_member_passes : answer_on near_the_reach (order 1 Bid Day 60000 11) ≡ placed 4 0

-- ---- a member in reduction mode

-- 10 lots sold need 2,000. With 14 bought the need is 1,800, and with 15 it is 2,000 again.
abbrev pub ten_sold : Market
ten_sold = with_lots (venue (member_in Reduction 20 2000 ∷ []) (instrument ∷ [])) 0 Offer 0 10

pub record ReductionEdges : Type 0 where
  pub lower_need_passes : answer_on ten_sold (order 0 Bid Immediate 60000 14) ≡ placed 1 1
  pub same_need_refused : answer_on ten_sold (order 0 Bid Immediate 60000 15) ≡ Err NeedNotLowered
  pub higher_need_refused : answer_on ten_sold (order 0 Offer Immediate 60000 1) ≡ Err NeedNotLowered

-- ---- pending orders and numbers

-- 300 numbers are given out.
abbrev pub with_pending : ℕ → Market
with_pending orders = with_given (with_row (with_limit 10) Offer 0 (one_lot_orders 70000 orders)) 300

pub record CountEdges : Type 0 where
  pub day_order_passes_at_255 : answer_on (with_pending 255) (bid 5) ≡ placed 301 0
  pub day_order_refused_at_256 : answer_on (with_pending 256) (bid 5) ≡ Err BookFull
  pub immediate_order_passes_at_256 : answer_on (with_pending 256) (order 0 Bid Immediate 60000 5) ≡ placed 301 1
  pub last_number_given_out : answer_on (with_given (with_limit 10) 65534) (bid 5) ≡ placed 65535 0
  pub no_number_left : answer_on (with_given (with_limit 10) 65535) (bid 5) ≡ Err NumbersUsedUp

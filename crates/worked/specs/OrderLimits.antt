-- The order limits. They count a member's own pending lots, of both sides.
use Rattle.std.specs.Prelude.{◌≡◌, ℕ, [], ◌∷◌, map, Err, Result}
use Rattle.terms.specs.declared.Side.TheVariants.{Bid, Offer}
use Rattle.terms.specs.declared.Term.TheVariants.{Day}
use Rattle.market.specs.declared.calls.Answer.{Answer}
use Rattle.market.specs.declared.calls.Phase.TheVariants.{Open as OpenPhase}
use Rattle.market.specs.declared.instruments.TenorGroup.{TenorGroup}
use Rattle.market.specs.declared.instruments.TenorGroup.TheVariants.{UpToOneYear, UpToFiveYears, OverFiveYears}
use Rattle.market.specs.declared.members.Benchmarks.{Benchmarks}
use Rattle.market.specs.declared.members.Benchmarks.TheVariants.{Mibor as OnlyMibor, Mmfor as OnlyMmfor, Both}
use Rattle.market.specs.declared.members.Limits.{Limits}
use Rattle.market.specs.declared.refusals.Refusal.{Refusal}
use Rattle.market.specs.declared.refusals.Refusal.TheVariants.{LotsOutOfRange, AccumulatedLimitPassed, OverFiveYearsLimitPassed}
use Rattle.market.specs.Limits.{highest_limit, accumulated_limit}
use Rattle.market.specs.Markets.{Market, with_given}
use Rattle.worked.specs.Venues.{limits, limits_of, member_with, instrument_of, venue, same_at_every_number, with_row, ◌by◌, pending, order_in, answer_on, placed}

-- Member 0 has these limits, and member 1 the widest. Instrument 0 is up to one year, 1 up to five, 2 and 3 over five. Ten numbers are given out.
abbrev pub limited : Benchmarks → Limits → Market
limited benchmarks of_groups =
    with_given
    (venue
    (member_with benchmarks of_groups ∷ member_with benchmarks (limits_of 1000) ∷ [])
    (instrument_of UpToOneYear ∷ instrument_of UpToFiveYears ∷ instrument_of OverFiveYears ∷ instrument_of OverFiveYears ∷ []))
    10

-- What member 0 is answered on a bid for so many lots of an instrument.
abbrev pub answer_on_lots : Market → ℕ → ℕ → Result Answer Refusal
answer_on_lots M i lots = answer_on M (order_in i 0 Bid Day 50000 lots)

-- ---- the accumulated order limit, for single order limits of 10

module _ (benchmarks : Benchmarks) where
  -- And 500 of another member's.
  abbrev pub thirty_pending : Market
  thirty_pending =
      with_row
      (with_row (limited benchmarks (limits_of 10)) Bid 0 (pending (2 by 0) 50000 10 ∷ pending (4 by 1) 50000 500 ∷ []))
      Offer 1 (pending (1 by 0) 70000 10 ∷ pending (3 by 0) 70000 10 ∷ [])

  abbrev pub thirty_one_pending : Market
  thirty_one_pending = with_row thirty_pending Offer 0 (pending (5 by 0) 70000 1 ∷ [])

  abbrev pub forty_pending : Market
  forty_pending = with_row thirty_pending Offer 0 (pending (5 by 0) 70000 10 ∷ [])

  abbrev pub forty_one_pending : Market
  forty_one_pending = with_row forty_pending Bid 1 (pending (6 by 0) 50000 1 ∷ [])

-- ---- the limit on orders of over five years

-- 6 lots in instruments of over five years, and 10 in a shorter one.
abbrev pub six_over_five_years : Limits → Market
six_over_five_years of_groups =
    with_row
    (with_row
    (with_row (limited OnlyMibor of_groups) Bid 0 (pending (1 by 0) 50000 10 ∷ []))
    Bid 2 (pending (2 by 0) 50000 2 ∷ pending (3 by 1) 50000 500 ∷ []))
    Offer 3 (pending (4 by 0) 70000 4 ∷ [])

-- ---- lots in the last instrument

-- All instruments are of one group.
abbrev pub pending_in_the_last : TenorGroup → ℕ → Market
pending_in_the_last group lots =
    with_given
    (with_row
    (same_at_every_number OpenPhase (member_with OnlyMibor (limits_of 10)) (instrument_of group))
    Offer 15 (pending (1 by 0) 70000 lots ∷ []))
    10

-- ---- limits that differ

abbrev pub unequal : Limits
unequal = limits 10 20 5

pub record OrderLimits : Type 0 where
  -- Four times the single order limit with one benchmark, five times with both.
  pub ten_more_pass_at_thirty : answer_on_lots (thirty_pending OnlyMibor) 0 10 ≡ placed 11 0
  pub ten_more_refused_at_thirty_one : answer_on_lots (thirty_one_pending OnlyMibor) 0 10 ≡ Err AccumulatedLimitPassed
  pub nine_more_pass_at_thirty_one : answer_on_lots (thirty_one_pending OnlyMibor) 0 9 ≡ placed 11 0
  pub with_both_benchmarks_ten_more_pass_at_forty : answer_on_lots (forty_pending Both) 0 10 ≡ placed 11 0
  pub with_both_benchmarks_ten_more_refused_at_forty_one :
      answer_on_lots (forty_one_pending Both) 0 10 ≡ Err AccumulatedLimitPassed
  pub multiples_of_the_limit :
      map (λ benchmarks. accumulated_limit (member_with benchmarks unequal)) (OnlyMibor ∷ OnlyMmfor ∷ Both ∷ []) ≡ 80 ∷ 80 ∷ 100 ∷ []
  -- Orders of over five years count, and are limited.
  pub four_more_over_five_years_pass_at_six : answer_on_lots (six_over_five_years (limits_of 10)) 2 4 ≡ placed 11 0
  pub five_more_over_five_years_refused_at_six :
      answer_on_lots (six_over_five_years (limits_of 10)) 2 5 ≡ Err OverFiveYearsLimitPassed
  pub ten_more_of_a_shorter_tenor_pass : answer_on_lots (six_over_five_years (limits_of 10)) 1 10 ≡ placed 11 0
  -- Instrument 15 counts as the others do.
  pub lots_in_the_last_instrument_counted : answer_on_lots (pending_in_the_last UpToFiveYears 31) 0 10 ≡ Err AccumulatedLimitPassed
  pub lots_in_the_last_instrument_counted_over_five_years :
      answer_on_lots (pending_in_the_last OverFiveYears 1) 0 10 ≡ Err OverFiveYearsLimitPassed
  -- Of limits that differ the group's own counts for one order, and the highest for orders together.
  pub up_to_one_year_its_limit_passes : answer_on_lots (limited OnlyMibor unequal) 0 10 ≡ placed 11 0
  pub up_to_one_year_one_more_refused : answer_on_lots (limited OnlyMibor unequal) 0 11 ≡ Err LotsOutOfRange
  pub up_to_five_years_its_limit_passes : answer_on_lots (limited OnlyMibor unequal) 1 20 ≡ placed 11 0
  pub up_to_five_years_one_more_refused : answer_on_lots (limited OnlyMibor unequal) 1 21 ≡ Err LotsOutOfRange
  pub over_five_years_its_limit_passes : answer_on_lots (limited OnlyMibor unequal) 2 5 ≡ placed 11 0
  pub over_five_years_one_more_refused : answer_on_lots (limited OnlyMibor unequal) 2 6 ≡ Err LotsOutOfRange
  pub over_five_years_five_more_pass_at_six : answer_on_lots (six_over_five_years unequal) 2 5 ≡ placed 11 0
  pub highest_of_the_three : map highest_limit (limits 3 2 1 ∷ limits 1 3 2 ∷ limits 1 2 3 ∷ []) ≡ 3 ∷ 3 ∷ 3 ∷ []

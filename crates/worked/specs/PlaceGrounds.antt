-- The grounds on which an order is refused, in their sequence: each example meets one ground with all that come after it, and none before it.
use Rattle.std.specs.Prelude.{◌≡◌, ℕ, true, false, cond, List, [], ◌∷◌, map, drop, Err, ◌==◌}
use Rattle.terms.specs.declared.Side.TheVariants.{Bid, Offer}
use Rattle.terms.specs.declared.Term.TheVariants.{Day, Immediate}
use Rattle.market.specs.declared.calls.Phase.TheVariants.{SetUp, Open as OpenPhase}
use Rattle.market.specs.declared.instruments.Benchmark.TheVariants.{Mibor}
use Rattle.market.specs.declared.instruments.TenorGroup.TheVariants.{UpToFiveYears, OverFiveYears}
use Rattle.market.specs.declared.members.Benchmarks.TheVariants.{Mibor as OnlyMibor, Mmfor as OnlyMmfor}
use Rattle.market.specs.declared.members.Mode.TheVariants.{Reduction, Normal}
use Rattle.market.specs.declared.refusals.Refusal.{Refusal}
use Rattle.market.specs.declared.refusals.Refusal.TheVariants.{ListTooShort, WrongPhase, NoSuchMember, NoSuchInstrument, BenchmarkNotOpted, LotsOutOfRange, RateOutOfRange, AccumulatedLimitPassed, OverFiveYearsLimitPassed, ReachPassed, DayOrderInReduction, NeedNotLowered, BookFull, NumbersUsedUp}
use Rattle.market.specs.Markets.{Market, with_phase, with_given}
use Rattle.market.specs.TableRows.{Member, Instrument}
use Rattle.worked.specs.Venues.{limits_of, instrument_of, venue, with_row, with_lots, ◌by◌, pending, one_lot_orders, order, placed}
use Rattle.worked.specs.Attempts.{Attempt, answer_to, met_by, if_met}

-- ---- an order that meets the grounds from the n-th on

module _ (n : ℕ) where
  abbrev pub placing_member : Member
  placing_member =
      record {
        admitted = if_met n 3 false true;
        benchmarks = if_met n 5 OnlyMmfor OnlyMibor;
        limits = limits_of 10;
        deposit = 0;
        mode = if_met n 12 Reduction Normal;
      }

  abbrev pub placing_instrument : Instrument
  placing_instrument = record { defined = if_met n 4 false true; benchmark = Mibor; group = OverFiveYears }

  -- The member's one pending order is in instrument 1. Beside it 255 or 254 of another's are pending.
  abbrev pub placing_rows : Market
  placing_rows =
      with_row
      (with_row
      (venue (placing_member ∷ []) (placing_instrument ∷ instrument_of (if_met n 9 OverFiveYears UpToFiveYears) ∷ []))
      Bid 1 (one_lot_orders 50000 (if_met n 13 255 254)))
      Offer 1 (pending (256 by 0) 70000 (if_met n 8 31 30) ∷ [])

  abbrev pub placing_market : Market
  placing_market =
      with_given
      (with_phase (with_lots placing_rows 0 Bid 0 (if_met n 10 99991 99990)) (if_met n 2 SetUp OpenPhase))
      (if_met n 14 65535 65534)

  -- In reduction mode a day order meets the eleventh ground, so that only an immediate one comes to the twelfth; and the thirteenth is met
  -- by day orders alone. So no order meets the twelfth and the thirteenth without the eleventh: their sequence makes no difference.
  abbrev pub placing : Attempt
  placing =
      record {
        places = if_met n 1 256 257;
        market = placing_market;
        call = order 0 Bid (cond (n == 12) Immediate Day) (if_met n 7 500001 500000) (if_met n 6 11 10);
      }

abbrev pub place_refusals : List Refusal
place_refusals =
    ListTooShort
    ∷ WrongPhase
    ∷ NoSuchMember
    ∷ NoSuchInstrument
    ∷ BenchmarkNotOpted
    ∷ LotsOutOfRange
    ∷ RateOutOfRange
    ∷ AccumulatedLimitPassed
    ∷ OverFiveYearsLimitPassed
    ∷ ReachPassed
    ∷ DayOrderInReduction
    ∷ NeedNotLowered
    ∷ BookFull
    ∷ NumbersUsedUp
    ∷ []

pub record PlaceGrounds : Type 0 where
  -- what is met
  pub met_from_each_of_the_first_eleven :
      map (λ n. met_by (placing n)) (1 ∷ 2 ∷ 3 ∷ 4 ∷ 5 ∷ 6 ∷ 7 ∷ 8 ∷ 9 ∷ 10 ∷ 11 ∷ [])
      ≡ map (λ before. drop before place_refusals) (0 ∷ 1 ∷ 2 ∷ 3 ∷ 4 ∷ 5 ∷ 6 ∷ 7 ∷ 8 ∷ 9 ∷ 10 ∷ [])
  pub met_from_the_twelfth : met_by (placing 12) ≡ NeedNotLowered ∷ NumbersUsedUp ∷ []
  pub met_from_the_thirteenth : met_by (placing 13) ≡ BookFull ∷ NumbersUsedUp ∷ []
  -- what is answered
  pub list_too_short : answer_to (placing 1) ≡ Err ListTooShort
  pub wrong_phase : answer_to (placing 2) ≡ Err WrongPhase
  pub no_such_member : answer_to (placing 3) ≡ Err NoSuchMember
  pub no_such_instrument : answer_to (placing 4) ≡ Err NoSuchInstrument
  pub benchmark_not_opted : answer_to (placing 5) ≡ Err BenchmarkNotOpted
  pub lots_out_of_range : answer_to (placing 6) ≡ Err LotsOutOfRange
  pub rate_out_of_range : answer_to (placing 7) ≡ Err RateOutOfRange
  pub accumulated_limit_passed : answer_to (placing 8) ≡ Err AccumulatedLimitPassed
  pub over_five_years_limit_passed : answer_to (placing 9) ≡ Err OverFiveYearsLimitPassed
  pub reach_passed : answer_to (placing 10) ≡ Err ReachPassed
  pub day_order_in_reduction : answer_to (placing 11) ≡ Err DayOrderInReduction
  pub need_not_lowered : answer_to (placing 12) ≡ Err NeedNotLowered
  pub book_full : answer_to (placing 13) ≡ Err BookFull
  pub numbers_used_up : answer_to (placing 14) ≡ Err NumbersUsedUp
  pub no_ground_met : answer_to (placing 15) ≡ placed 65535 0

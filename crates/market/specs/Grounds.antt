-- The grounds on which each call is refused, in the sequence in which they are tested.
use Rattle.std.specs.Prelude.{ℕ, ◌+◌, ◌-◌, ◌*◌, Bool, true, false, cond, not, ◌&&◌, ◌||◌, nat_lt, nat_le, List, [], ◌∷◌, ◌++◌, length, ℤ, pos, negsuc, is_some, Ok, Err, filter, Result, ◌==◌, int_lt}
use Rattle.terms.specs.declared.Order.{Order}
use Rattle.terms.specs.declared.Term.{Term}
use Rattle.terms.specs.declared.Term.TheVariants.{Day, Immediate}
use Rattle.terms.specs.Tables.{sum_below}
use Rattle.margin.specs.Sheets.{Charge}
use Rattle.market.specs.declared.calls.Call.{Call}
use Rattle.market.specs.declared.calls.Call.TheVariants.{Admit, Define, Open, Deposit, Withdraw, Place, Cancel, CancelAll, Close, AskStanding, AskQuotes, AskListing}
use Rattle.market.specs.declared.calls.Phase.{Phase}
use Rattle.market.specs.declared.calls.Phase.TheVariants.{SetUp, Open as OpenPhase, Closed}
use Rattle.market.specs.declared.members.Limits.{Limits}
use Rattle.market.specs.declared.orders.NewOrder.{NewOrder}
use Rattle.market.specs.declared.refusals.Refusal.{Refusal}
use Rattle.market.specs.declared.refusals.Refusal.TheVariants.{ListTooShort, WrongPhase, NoSuchMember, NoSuchInstrument, AlreadyThere, ValueOutOfRange, AmountOutOfRange, DepositNeeded, BenchmarkNotOpted, LotsOutOfRange, RateOutOfRange, AccumulatedLimitPassed, OverFiveYearsLimitPassed, ReachPassed, DayOrderInReduction, NeedNotLowered, NoSuchOrder, BookFull, NumbersUsedUp}
use Rattle.market.specs.TableRows.{Member, Instrument}
use Rattle.market.specs.Numbers.{benchmark_numbered, group_numbered, benchmarks_numbered}
use Rattle.market.specs.Markets.{Market, is_of, lots_of, pending_in, pending_lots, pending_orders}
use Rattle.market.specs.Limits.{opted, is_over_five_years, limit_for, highest_limit, accumulated_limit}
use Rattle.market.specs.Modes.{is_reduction, need}
use Rattle.market.specs.Meeting.{lowers_need}

pub record Ground : Type 0 where
  pub refusal : Refusal
  pub is_met : Bool

infixl 20 ◌when◌
abbrev pub ◌when◌ : Refusal → Bool → Ground
refusal when is_met = record { refusal = refusal; is_met = is_met }

-- The first ground met is the answer.
abbrev pub checked : List Ground → Result (Unit {0}) Refusal
checked [] = Ok tt
checked (first ∷ grounds) = cond first.is_met (Err first.refusal) (checked grounds)

-- ---- the tests

abbrev pub is_set_up : Phase → Bool
is_set_up SetUp = true
is_set_up OpenPhase = false
is_set_up Closed = false

abbrev pub is_open : Phase → Bool
is_open SetUp = false
is_open OpenPhase = true
is_open Closed = false

abbrev pub is_day : Term → Bool
is_day Day = true
is_day Immediate = false

-- The most events that a call tells, and a place for each of 256 orders and one more.
abbrev pub is_short : ℕ → Bool
is_short places = nat_lt places 257

abbrev pub no_member : Market → ℕ → Bool
no_member M m = nat_le 32 m || not (M.members m).admitted

abbrev pub no_instrument : Market → ℕ → Bool
no_instrument M i = nat_le 16 i || not (M.instruments i).defined

abbrev pub limits_out_of_range : Limits → Bool
limits_out_of_range limits =
    nat_lt 1000 limits.up_to_one_year || (nat_lt 1000 limits.up_to_five_years || nat_lt 1000 limits.over_five_years)

abbrev pub factor_out_of_range : ℕ → Bool
factor_out_of_range factor = factor == 0 || nat_lt 100000 factor

-- 10^12 half-rupees
abbrev pub highest_deposit : ℕ
highest_deposit = 1000000000000

abbrev pub lots_out_of_range : ℕ → ℕ → Bool
lots_out_of_range limit lots = lots == 0 || (nat_lt 1000 lots || nat_lt limit lots)

abbrev pub rate_out_of_range : ℤ → Bool
rate_out_of_range rate = int_lt rate (negsuc 499999) || int_lt (pos 500000) rate

-- A member's lots pending in the instruments of over five years.
abbrev pub pending_over_five_years : Market → ℕ → ℕ
pending_over_five_years M m =
    sum_below 16 (λ i. cond (is_over_five_years (M.instruments i).group) (pending_in M.rows m i) 0)

abbrev pub is_order : ℕ → ℕ → Order → Bool
is_order m number order = is_of m order && number == order.number

abbrev pub no_order : Market → ℕ → ℕ → Bool
no_order M m number = length (filter (is_order m number) (pending_orders M.rows)) == 0

-- ---- the grounds of each call

abbrev pub admit_grounds : Market → ℕ → ℕ → Limits → List Ground
admit_grounds M m benchmarks limits =
    (WrongPhase when not (is_set_up M.phase))
    ∷ (NoSuchMember when nat_le 32 m)
    ∷ (AlreadyThere when (M.members m).admitted)
    ∷ (ValueOutOfRange when (not (is_some (benchmarks_numbered benchmarks)) || limits_out_of_range limits))
    ∷ []

abbrev pub define_grounds : Market → ℕ → ℕ → ℕ → ℕ → List Ground
define_grounds M i benchmark group factor =
    (WrongPhase when not (is_set_up M.phase))
    ∷ (NoSuchInstrument when nat_le 16 i)
    ∷ (AlreadyThere when (M.instruments i).defined)
    ∷ (ValueOutOfRange when (not (is_some (benchmark_numbered benchmark)) || (not (is_some (group_numbered group)) || factor_out_of_range factor)))
    ∷ []

abbrev pub open_grounds : Market → List Ground
open_grounds M = (WrongPhase when not (is_set_up M.phase)) ∷ []

abbrev pub deposit_grounds : Market → ℕ → ℕ → List Ground
deposit_grounds M m amount =
    (WrongPhase when not (is_set_up M.phase || is_open M.phase))
    ∷ (NoSuchMember when no_member M m)
    ∷ (AmountOutOfRange when (amount == 0 || nat_lt highest_deposit ((M.members m).deposit + amount)))
    ∷ []

abbrev pub cancel_grounds : ℕ → Market → ℕ → ℕ → List Ground
cancel_grounds places M m number =
    (ListTooShort when is_short places)
    ∷ (WrongPhase when not (is_open M.phase))
    ∷ (NoSuchMember when no_member M m)
    ∷ (NoSuchOrder when no_order M m number)
    ∷ []

abbrev pub cancel_all_grounds : ℕ → Market → ℕ → List Ground
cancel_all_grounds places M m =
    (ListTooShort when is_short places)
    ∷ (WrongPhase when not (is_open M.phase))
    ∷ (NoSuchMember when no_member M m)
    ∷ []

abbrev pub close_grounds : ℕ → Market → List Ground
close_grounds places M = (ListTooShort when is_short places) ∷ (WrongPhase when not (is_open M.phase)) ∷ []

abbrev pub standing_grounds : Market → ℕ → List Ground
standing_grounds M m = (NoSuchMember when no_member M m) ∷ []

abbrev pub quotes_grounds : Market → ℕ → List Ground
quotes_grounds M i = (NoSuchInstrument when no_instrument M i) ∷ []

abbrev pub listing_grounds : ℕ → Market → ℕ → List Ground
listing_grounds places M i = (ListTooShort when is_short places) ∷ (NoSuchInstrument when no_instrument M i) ∷ []

-- What this member may place in this instrument.
abbrev pub term_grounds : NewOrder → Member → Instrument → List Ground
term_grounds new member instrument =
    (BenchmarkNotOpted when not (opted member.benchmarks instrument.benchmark))
    ∷ (LotsOutOfRange when lots_out_of_range (limit_for instrument.group member.limits) new.lots)
    ∷ (RateOutOfRange when rate_out_of_range new.rate)
    ∷ []

module _ (charge : Charge) (reach : ℕ) where
  -- What is left of the deposit has to keep the member's use of it below 95 hundredths.
  abbrev pub withdraw_grounds : Market → ℕ → ℕ → List Ground
  withdraw_grounds M m amount =
      (WrongPhase when not (is_set_up M.phase || is_open M.phase))
      ∷ (NoSuchMember when no_member M m)
      ∷ (AmountOutOfRange when (amount == 0 || nat_lt (M.members m).deposit amount))
      ∷ (DepositNeeded when (is_reduction (M.members m).mode || nat_le (19 * ((M.members m).deposit - amount)) (20 * need charge M m)))
      ∷ []

  -- Who places what, and where.
  abbrev pub entry_grounds : ℕ → Market → NewOrder → List Ground
  entry_grounds places M new =
      (ListTooShort when is_short places)
      ∷ (WrongPhase when not (is_open M.phase))
      ∷ (NoSuchMember when no_member M new.member)
      ∷ (NoSuchInstrument when no_instrument M new.instrument)
      ∷ term_grounds new (M.members new.member) (M.instruments new.instrument)

  -- How many lots the member may have pending and held.
  abbrev pub limit_grounds : Market → NewOrder → List Ground
  limit_grounds M new =
      let member = M.members new.member in
      let instrument = M.instruments new.instrument in
      (AccumulatedLimitPassed when nat_lt (accumulated_limit member) (pending_lots M.rows new.member + new.lots))
      ∷ (OverFiveYearsLimitPassed when (is_over_five_years instrument.group && nat_lt (highest_limit member.limits) (pending_over_five_years M new.member + new.lots)))
      ∷ (ReachPassed when nat_lt reach (M.sheet.held new.member new.side new.instrument + lots_of new.member (M.rows new.side new.instrument) + new.lots))
      ∷ []

  -- What reduction mode forbids, and what all members share.
  abbrev pub mode_grounds : Market → NewOrder → List Ground
  mode_grounds M new =
      let in_reduction = is_reduction (M.members new.member).mode in
      (DayOrderInReduction when (in_reduction && is_day new.term))
      ∷ (NeedNotLowered when (in_reduction && not (lowers_need charge reach M new new.lots)))
      ∷ (BookFull when (is_day new.term && nat_le 256 (length (pending_orders M.rows))))
      ∷ (NumbersUsedUp when nat_le 65535 M.given)
      ∷ []

  abbrev pub place_grounds : ℕ → Market → NewOrder → List Ground
  place_grounds places M new = entry_grounds places M new ++ (limit_grounds M new ++ mode_grounds M new)

  -- A list of so many places is lent with the calls that tell events, and with the listing.
  abbrev pub grounds : ℕ → Market → Call → List Ground
  grounds places M (Admit member benchmarks limits) = admit_grounds M member benchmarks limits
  grounds places M (Define instrument benchmark group factor) = define_grounds M instrument benchmark group factor
  grounds places M Open = open_grounds M
  grounds places M (Deposit member amount) = deposit_grounds M member amount
  grounds places M (Withdraw member amount) = withdraw_grounds M member amount
  grounds places M (Place new) = place_grounds places M new
  grounds places M (Cancel member number) = cancel_grounds places M member number
  grounds places M (CancelAll member) = cancel_all_grounds places M member
  grounds places M Close = close_grounds places M
  grounds places M (AskStanding member) = standing_grounds M member
  grounds places M (AskQuotes instrument) = quotes_grounds M instrument
  grounds places M (AskListing instrument) = listing_grounds places M instrument

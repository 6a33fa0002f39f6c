-- The words of the examples: venues and what stands in them, calls, answers and events.
use Rattle.std.specs.Prelude.{ℕ, zero, suc, true, cond, List, [], ◌∷◌, ◌++◌, map, slice_index_or, ℤ, pos, Ok, Result}
use Rattle.terms.specs.declared.Order.{Order}
use Rattle.terms.specs.declared.Side.{Side}
use Rattle.terms.specs.declared.Term.{Term}
use Rattle.margin.specs.Sheets.{Charge, no_lots, fresh_sheet, recorded}
use Rattle.positions.specs.Charges.{summed, standard_amount}
use Rattle.market.specs.declared.calls.Answer.{Answer}
use Rattle.market.specs.declared.calls.Answer.TheVariants.{Placed as PlacedAs, Cancelled as CancelledCount, Standing as StandingIs}
use Rattle.market.specs.declared.calls.Call.{Call}
use Rattle.market.specs.declared.calls.Call.TheVariants.{Place, AskStanding}
use Rattle.market.specs.declared.calls.Phase.{Phase}
use Rattle.market.specs.declared.calls.Phase.TheVariants.{Open as OpenPhase}
use Rattle.market.specs.declared.events.Event.{Event}
use Rattle.market.specs.declared.events.Event.TheVariants.{Traded, Cancelled}
use Rattle.market.specs.declared.events.Reason.{Reason}
use Rattle.market.specs.declared.instruments.Benchmark.TheVariants.{Mibor}
use Rattle.market.specs.declared.instruments.TenorGroup.{TenorGroup}
use Rattle.market.specs.declared.instruments.TenorGroup.TheVariants.{UpToFiveYears}
use Rattle.market.specs.declared.members.Benchmarks.{Benchmarks}
use Rattle.market.specs.declared.members.Benchmarks.TheVariants.{Mibor as OnlyMibor}
use Rattle.market.specs.declared.members.Limits.{Limits}
use Rattle.market.specs.declared.members.Mode.{Mode}
use Rattle.market.specs.declared.members.Mode.TheVariants.{Normal}
use Rattle.market.specs.declared.refusals.Refusal.{Refusal}
use Rattle.market.specs.Markets.{Market, pending_orders, put_row, with_rows, with_sheet}
use Rattle.market.specs.Calls.{Outcome, step}
use Rattle.market.specs.TableRows.{Member, Instrument, blank_member, blank_instrument}
use Rattle.runs.specs.Deeds.{Made, Deed, deeds, market_at_end}

-- ---- the keeper: the standard charge, and its reach

abbrev pub standard : Charge
standard = summed standard_amount

abbrev pub reach : ℕ
reach = 100000

-- ---- members and instruments

abbrev pub limits : ℕ → ℕ → ℕ → Limits
limits one-year five-years over-five-years =
    record { up_to_one_year = one-year; up_to_five_years = five-years; over_five_years = over-five-years }

-- The same for each group of tenors.
abbrev pub limits_of : ℕ → Limits
limits_of lots = limits lots lots lots

-- A member for MIBOR, with its limit and its deposit.
abbrev pub member_in : Mode → ℕ → ℕ → Member
member_in mode limit deposit =
    record { admitted = true; benchmarks = OnlyMibor; limits = limits_of limit; deposit = deposit; mode = mode }

-- A normal member, with a deposit that no trade here uses up.
abbrev pub member_with : Benchmarks → Limits → Member
member_with benchmarks limits =
    record { admitted = true; benchmarks = benchmarks; limits = limits; deposit = 1000000000; mode = Normal }

abbrev pub member_for_20_lots : Member
member_for_20_lots = member_with OnlyMibor (limits_of 20)

abbrev pub instrument_of : TenorGroup → Instrument
instrument_of group = record { defined = true; benchmark = Mibor; group = group }

abbrev pub instrument : Instrument
instrument = instrument_of UpToFiveYears

-- ---- venues

-- An open venue with these members and instruments, numbered from 0. Every factor is 100; nothing is pending, and nobody holds lots.
abbrev pub venue : List Member → List Instrument → Market
venue members instruments =
    record {
      phase = OpenPhase;
      members = λ m. slice_index_or members m blank_member;
      instruments = λ i. slice_index_or instruments i blank_instrument;
      rows = λ _ _. [];
      given = 0;
      sheet = record { factor = λ i. cond (slice_index_or instruments i blank_instrument).defined 100 0; held = λ _. no_lots };
    }

-- The same member and the same instrument at every number, also past the last.
abbrev pub same_at_every_number : Phase → Member → Instrument → Market
same_at_every_number phase member instrument =
    record { phase = phase; members = λ _. member; instruments = λ _. instrument; rows = λ _ _. []; given = 0; sheet = fresh_sheet }

-- The same venue, but these orders on one side of an instrument.
abbrev pub with_row : Market → Side → ℕ → List Order → Market
with_row M side i orders = with_rows M (put_row M.rows side i orders)

-- The same venue, but a member has bought or sold so many lots more.
abbrev pub with_lots : Market → ℕ → Side → ℕ → ℕ → Market
with_lots M m side i lots = with_sheet M (recorded M.sheet m i side lots)

abbrev pub pending_in_all : Market → List Order
pending_in_all M = pending_orders M.rows

-- ---- orders, named by their number and their member

infix 30 ◌by◌
abbrev pub ◌by◌ : ℕ → ℕ → (ℕ × ℕ)
number by m = (number, m)

-- With its rate and its lots.
abbrev pub pending : (ℕ × ℕ) → ℕ → ℕ → Order
pending order rate lots = record { rate = pos rate; number = order.0; member = order.1; lots = lots }

-- Numbers 1 to n of member 1, a lot each, at one rate.
abbrev pub one_lot_orders : ℕ → ℕ → List Order
one_lot_orders rate zero = []
one_lot_orders rate (suc n) = one_lot_orders rate n ++ (pending (suc n by 1) rate 1 ∷ [])

-- ---- calls

abbrev pub order_at : ℤ → ℕ → ℕ → Side → Term → ℕ → Call
order_at rate i m side term lots =
    Place (record { member = m; instrument = i; side = side; term = term; rate = rate; lots = lots })

abbrev pub order_in : ℕ → ℕ → Side → Term → ℕ → ℕ → Call
order_in i m side term rate lots = order_at (pos rate) i m side term lots

-- In instrument 0: member, side, term, rate and lots.
abbrev pub order : ℕ → Side → Term → ℕ → ℕ → Call
order = order_in 0

-- With a list of the fewest places that are enough.
abbrev pub made : Call → Made
made call = record { call = call; places = 257 }

abbrev pub outcome : Market → Call → Outcome
outcome M call = step standard reach 257 M call

abbrev pub answer_on : Market → Call → Result Answer Refusal
answer_on M call = (outcome M call).answer

abbrev pub run : Market → List Call → List Deed
run M calls = deeds standard reach M (map made calls)

abbrev pub left_by : Market → List Call → Market
left_by M calls = market_at_end standard reach M (map made calls)

-- ---- answers and events

abbrev pub answers : List Deed → List (Result Answer Refusal)
answers = map (λ deed. deed.answer)

abbrev pub told : List Deed → List Event
told [] = []
told (deed ∷ deeds) = deed.events ++ told deeds

-- The order is accepted under a number, and so many events are told.
abbrev pub placed : ℕ → ℕ → Result Answer Refusal
placed number events = Ok (PlacedAs (record { number = number; events = events }))

abbrev pub cancelled : ℕ → Result Answer Refusal
cancelled orders = Ok (CancelledCount orders)

abbrev pub standing : ℕ → ℕ → Mode → Result Answer Refusal
standing need deposit mode = Ok (StandingIs (record { need = need; deposit = deposit; mode = mode }))

-- What members 0, 1 and 2 are answered.
abbrev pub standings : Market → List (Result Answer Refusal)
standings M = map (λ m. answer_on M (AskStanding m)) (0 ∷ 1 ∷ 2 ∷ [])

-- The order that buys, then the one that sells.
abbrev pub trade_at : ℤ → ℕ → (ℕ × ℕ) → (ℕ × ℕ) → ℕ → Event
trade_at rate i bought sold lots =
    Traded (record { instrument = i; buyer = bought.1; buy_number = bought.0; seller = sold.1; sell_number = sold.0; rate = rate; lots = lots })

-- In instrument 0, with rate and lots.
abbrev pub trade : (ℕ × ℕ) → (ℕ × ℕ) → ℕ → ℕ → Event
trade bought sold rate lots = trade_at (pos rate) 0 bought sold lots

-- With the lots that were not traded.
abbrev pub cancel : (ℕ × ℕ) → ℕ → Reason → Event
cancel order lots reason = Cancelled (record { number = order.0; member = order.1; lots = lots; reason = reason })

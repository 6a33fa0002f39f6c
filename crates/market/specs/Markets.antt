-- What a venue holds, and how one part of it is changed.
use Rattle.std.specs.Prelude.{ℕ, zero, suc, ◌+◌, Bool, cond, List, [], ◌∷◌, ◌++◌, map, ◌==◌}
use Rattle.terms.specs.declared.Order.{Order}
use Rattle.terms.specs.declared.Side.{Side}
use Rattle.terms.specs.declared.Side.TheVariants.{Bid, Offer}
use Rattle.terms.specs.Sides.{same_side}
use Rattle.terms.specs.Tables.{put, sum_below}
use Rattle.margin.specs.Sheets.{Sheet, fresh_sheet}
use Rattle.market.specs.declared.calls.Phase.{Phase}
use Rattle.market.specs.declared.calls.Phase.TheVariants.{SetUp}
use Rattle.market.specs.declared.events.Event.{Event}
use Rattle.market.specs.declared.orders.Listed.{Listed}
use Rattle.market.specs.TableRows.{Member, Instrument, blank_member, blank_instrument}

-- The pending orders of each side of each instrument, in the sequence in which they will be met.
abbrev pub Rows : Type 0
Rows = Side → ℕ → List Order

-- A venue. Members and instruments are tables by number; sheet is what its margin keeper holds.
pub record Market : Type 0 where
  pub phase : Phase
  pub members : ℕ → Member
  pub instruments : ℕ → Instrument
  pub rows : Rows
  pub given : ℕ
  pub sheet : Sheet

-- ---- a venue as it begins

-- Over a keeper that holds this sheet.
abbrev pub begun : Sheet → Market
begun sheet =
    record {
      phase = SetUp;
      members = λ _. blank_member;
      instruments = λ _. blank_instrument;
      rows = λ _ _. [];
      given = 0;
      sheet = sheet;
    }

abbrev pub fresh_market : Market
fresh_market = begun fresh_sheet

-- ---- one part changed

abbrev pub with_phase : Market → Phase → Market
with_phase M phase =
    record { phase = phase; members = M.members; instruments = M.instruments; rows = M.rows; given = M.given; sheet = M.sheet }

abbrev pub with_member : Market → ℕ → Member → Market
with_member M m member =
    record { phase = M.phase; members = put M.members m member; instruments = M.instruments; rows = M.rows; given = M.given; sheet = M.sheet }

abbrev pub with_instrument : Market → ℕ → Instrument → Market
with_instrument M i instrument =
    record { phase = M.phase; members = M.members; instruments = put M.instruments i instrument; rows = M.rows; given = M.given; sheet = M.sheet }

abbrev pub with_rows : Market → Rows → Market
with_rows M rows =
    record { phase = M.phase; members = M.members; instruments = M.instruments; rows = rows; given = M.given; sheet = M.sheet }

abbrev pub with_given : Market → ℕ → Market
with_given M n =
    record { phase = M.phase; members = M.members; instruments = M.instruments; rows = M.rows; given = n; sheet = M.sheet }

abbrev pub with_sheet : Market → Sheet → Market
with_sheet M sheet =
    record { phase = M.phase; members = M.members; instruments = M.instruments; rows = M.rows; given = M.given; sheet = sheet }

-- The same rows, but another one on one side of one instrument.
abbrev pub put_row : Rows → Side → ℕ → List Order → Rows
put_row rows side i row s = cond (same_side side s) (put (rows s) i row) (rows s)

-- ---- pending orders

-- The sum of a number of each order. Not an abbreviation, as all sums: a proof would see it written out.
unfoldable pub sum_over : (Order → ℕ) → List Order → ℕ
sum_over number [] = 0
sum_over number (order ∷ orders) = number order + sum_over number orders

abbrev pub is_of : ℕ → Order → Bool
is_of m order = m == order.member

-- The lots of one member among orders.
abbrev pub lots_of : ℕ → List Order → ℕ
lots_of m = sum_over (λ order. cond (is_of m order) order.lots 0)

abbrev pub pending_in : Rows → ℕ → ℕ → ℕ
pending_in rows m i = lots_of m (rows Bid i) + lots_of m (rows Offer i)

-- A member's lots pending in all instruments.
abbrev pub pending_lots : Rows → ℕ → ℕ
pending_lots rows m = sum_below 16 (pending_in rows m)

unfoldable pub joined_below : {A : Type 0} → ℕ → (ℕ → List A) → List A
joined_below zero lists = []
joined_below (suc n) lists = joined_below n lists ++ lists n

-- All pending orders, instrument by instrument.
abbrev pub pending_orders : Rows → List Order
pending_orders rows = joined_below 16 (λ i. rows Bid i ++ rows Offer i)

-- The listing of an instrument: its bids first to last, then its offers.
abbrev pub listed : Side → Order → Listed
listed side order =
    record { side = side; rate = order.rate; lots = order.lots; number = order.number; member = order.member }

abbrev pub listing : Market → ℕ → List Listed
listing M i = map (listed Bid) (M.rows Bid i) ++ map (listed Offer) (M.rows Offer i)

-- ---- what is told on the way

-- A venue with the events that led to it.
pub record Told : Type 0 where
  pub market : Market
  pub events : List Event

abbrev pub quietly : Market → Told
quietly M = record { market = M; events = [] }

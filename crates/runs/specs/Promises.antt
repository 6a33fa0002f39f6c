-- What is promised of every run on a fresh venue, over every margin keeper that keeps its two laws.
use Rattle.std.specs.Prelude.{◌≡◌, ℕ, zero, suc, ◌+◌, ◌*◌, ◌<◌, ◌≤◌, max, cond, ◌≢◌, List, [], ◌∷◌, map, length, ◌<ℤ◌, ◌==◌}
use Rattle.std.specs.List.{AllByRecursion}
use Rattle.terms.specs.declared.Order.{Order}
use Rattle.terms.specs.declared.Side.{Side}
use Rattle.terms.specs.declared.Side.TheVariants.{Bid, Offer}
use Rattle.terms.specs.Tables.{sum_below}
use Rattle.row.specs.Rates.{Precedes}
use Rattle.margin.specs.Sheets.{Charge, need_of}
use Rattle.margin.specs.Laws.{NoLotsNoCharge, RiseBounded}
use Rattle.market.specs.declared.events.Event.{Event}
use Rattle.market.specs.declared.events.Event.TheVariants.{Traded, Cancelled}
use Rattle.market.specs.declared.events.Trade.{Trade}
use Rattle.market.specs.declared.members.Mode.TheVariants.{Reduction, Normal}
use Rattle.market.specs.declared.orders.Listed.{Listed}
use Rattle.market.specs.Markets.{Market, fresh_market, listing, pending_orders}
use Rattle.runs.specs.Deeds.{Made, Deed, deeds, market_at_end}
use Rattle.runs.specs.Ledgers.{Ledger, blank_ledger, trade_entry, calling_member, owed, event_entry, call_entry, deed_entry, ledger}

-- ---- the words of the promises

-- Each order stands before all that come after it: at a better rate, or at the same rate with a lower number.
abbrev pub InSequence : Side → List Order → Type 0
InSequence side [] = Unit {0}
InSequence side (order ∷ orders) = AllByRecursion (Precedes side order) orders × InSequence side orders

-- Every bid's rate is below every offer's.
abbrev pub Uncrossed : List Order → List Order → Type 0
Uncrossed bids offers = AllByRecursion (λ bid. AllByRecursion (λ offer. bid.rate <ℤ offer.rate) offers) bids

abbrev pub NoTwoAlike : List ℕ → Type 0
NoTwoAlike [] = Unit {0}
NoTwoAlike (n ∷ ns) = AllByRecursion (λ other. n ≢ other) ns × NoTwoAlike ns

-- A member's lots in a listing, and in the listings of all instruments.
unfoldable pub lots_in_listing : ℕ → List Listed → ℕ
lots_in_listing m [] = 0
lots_in_listing m (place ∷ places) = cond (m == place.member) place.lots 0 + lots_in_listing m places

abbrev pub pending : Market → ℕ → ℕ
pending M m = sum_below 16 (λ i. lots_in_listing m (listing M i))

-- The highest of the first n of a table, 0 of none.
unfoldable pub highest_below : ℕ → (ℕ → ℕ) → ℕ
highest_below zero table = 0
highest_below (suc n) table = max (highest_below n table) (table n)

abbrev pub highest_factor : Ledger → ℕ
highest_factor L = highest_below 16 L.factor

module _ (charge : Charge) where
  -- A trade that finds a member in reduction mode lowers its need, by the ledger's mode and need just before it.
  abbrev pub LowersNeed : Ledger → Trade → ℕ → Type 0
  LowersNeed L trade m = L.mode m ≡ Reduction → owed charge (trade_entry trade L) m < owed charge L m

  abbrev pub EventReducesRisk : Ledger → Event → Type 0
  EventReducesRisk L (Traded trade) = LowersNeed L trade trade.buyer × LowersNeed L trade trade.seller
  EventReducesRisk L (Cancelled cancellation) = Unit {0}

  abbrev pub EventsReduceRisk : ℕ → Ledger → List Event → Type 0
  EventsReduceRisk placing L [] = Unit {0}
  EventsReduceRisk placing L (event ∷ events) =
      EventReducesRisk L event × EventsReduceRisk placing (event_entry charge placing event L) events

  abbrev pub DeedsReduceRisk : Ledger → List Deed → Type 0
  DeedsReduceRisk L [] = Unit {0}
  DeedsReduceRisk L (deed ∷ deeds) =
      EventsReduceRisk (calling_member deed.call) (call_entry charge deed.call L) deed.events
      × DeedsReduceRisk (deed_entry charge deed L) deeds

  -- Of a run that made these deeds and left this venue.
  pub record Sound (run : List Deed) (M : Market) : Type 0 where
    -- the book
    pub bids_below_offers : (i : ℕ) → Uncrossed (M.rows Bid i) (M.rows Offer i)
    pub sides_by_rate_then_number : (side : Side) (i : ℕ) → InSequence side (M.rows side i)
    pub reduction_has_nothing_pending : (m : ℕ) → (M.members m).mode ≡ Reduction → pending M m ≡ 0
    pub at_most_256_pending : length (pending_orders M.rows) ≤ 256
    pub no_number_twice : NoTwoAlike (map (λ order. order.number) (pending_orders M.rows))
    -- every lot
    pub lots_accounted_for : (m : ℕ) → (ledger charge run).accepted m ≡ (ledger charge run).traded m + pending M m + (ledger charge run).cancelled m
    pub bought_equals_sold : (i : ℕ) → sum_below 32 (λ m. M.sheet.held m Bid i) ≡ sum_below 32 (λ m. M.sheet.held m Offer i)
    -- the ledger
    pub factors_are_the_ledgers : (i : ℕ) → M.sheet.factor i ≡ (ledger charge run).factor i
    pub totals_are_the_ledgers : (m : ℕ) (side : Side) (i : ℕ) → M.sheet.held m side i ≡ (ledger charge run).totals m side i
    pub need_is_the_charge_on_trades : (m : ℕ) → m < 32 → need_of charge M.sheet m ≡ owed charge (ledger charge run) m
    pub deposit_is_the_ledgers : (m : ℕ) → (M.members m).deposit ≡ (ledger charge run).deposit m
    pub mode_is_the_ledgers : (m : ℕ) → (M.members m).mode ≡ (ledger charge run).mode m
    -- needs and modes
    pub need_bounded : (m : ℕ) → m < 32 → 20 * owed charge (ledger charge run) m ≤ 19 * (ledger charge run).deposit m + 40 * (highest_factor (ledger charge run) * (ledger charge run).limit m)
    pub normal_below_95_hundredths : (m : ℕ) → m < 32 → (ledger charge run).mode m ≡ Normal → 20 * owed charge (ledger charge run) m < 19 * (ledger charge run).deposit m
    pub reduction_from_90_hundredths : (m : ℕ) → m < 32 → (ledger charge run).mode m ≡ Reduction → 9 * (ledger charge run).deposit m ≤ 10 * owed charge (ledger charge run) m
    pub trades_in_reduction_lower_need : DeedsReduceRisk blank_ledger run
    -- the events
    pub at_most_257_events : AllByRecursion (λ deed. length deed.events ≤ 257) run

-- Any calls, in any order, refused ones and questions among them.
abbrev pub EveryRunIsSound : Charge → ℕ → Type 0
EveryRunIsSound charge reach =
    NoLotsNoCharge charge → RiseBounded charge reach
    → (calls : List Made) → Sound charge (deeds charge reach fresh_market calls) (market_at_end charge reach fresh_market calls)

abbrev pub SoundOverEveryKeeper : Type 0
SoundOverEveryKeeper = (charge : Charge) (reach : ℕ) → EveryRunIsSound charge reach

-- The ledger of a run, kept from the calls' arguments, answers and events alone.
use Rattle.std.specs.Prelude.{ℕ, ◌+◌, ◌-◌, cond, ◌&&◌, List, [], ◌∷◌, is_ok, ◌==◌}
use Rattle.terms.specs.declared.Side.{Side}
use Rattle.terms.specs.declared.Side.TheVariants.{Bid, Offer}
use Rattle.terms.specs.Sides.{same_side}
use Rattle.terms.specs.Tables.{put}
use Rattle.margin.specs.Sheets.{Charge, Totals, no_lots}
use Rattle.market.specs.declared.calls.Call.{Call}
use Rattle.market.specs.declared.calls.Call.TheVariants.{Admit, Define, Open, Deposit, Withdraw, Place, Cancel, CancelAll, Close, AskStanding, AskQuotes, AskListing}
use Rattle.market.specs.declared.events.Cancellation.{Cancellation}
use Rattle.market.specs.declared.events.Event.{Event}
use Rattle.market.specs.declared.events.Event.TheVariants.{Traded, Cancelled}
use Rattle.market.specs.declared.events.Trade.{Trade}
use Rattle.market.specs.declared.members.Mode.{Mode}
use Rattle.market.specs.declared.members.Mode.TheVariants.{Reduction}
use Rattle.market.specs.Limits.{highest_limit}
use Rattle.market.specs.Modes.{judged}
use Rattle.runs.specs.Deeds.{Deed}

-- By member: deposit, mode, highest single order limit, and lots accepted, traded and cancelled. By instrument: the factor.
-- By member, side and instrument: the lots bought and sold.
pub record Ledger : Type 0 where
  pub deposit : ℕ → ℕ
  pub mode : ℕ → Mode
  pub limit : ℕ → ℕ
  pub accepted : ℕ → ℕ
  pub traded : ℕ → ℕ
  pub cancelled : ℕ → ℕ
  pub factor : ℕ → ℕ
  pub totals : ℕ → Totals

abbrev pub blank_ledger : Ledger
blank_ledger =
    record {
      deposit = λ _. 0;
      mode = λ _. Reduction;
      limit = λ _. 0;
      accepted = λ _. 0;
      traded = λ _. 0;
      cancelled = λ _. 0;
      factor = λ _. 0;
      totals = λ _. no_lots;
    }

-- The same table, but q more at place i.
abbrev pub add : (ℕ → ℕ) → ℕ → ℕ → ℕ → ℕ
add table i q j = table j + cond (i == j) q 0

-- The same totals, but q lots more of one member on one side of one instrument.
abbrev pub add_lots : (ℕ → Totals) → ℕ → Side → ℕ → ℕ → ℕ → Totals
add_lots totals m side i q k s j = totals k s j + cond (same_side side s && (m == k && i == j)) q 0

-- ---- entries that need no charge

abbrev pub admit_entry : ℕ → ℕ → Ledger → Ledger
admit_entry m limit L =
    record { deposit = put L.deposit m 0; mode = put L.mode m Reduction; limit = put L.limit m limit; accepted = put L.accepted m 0; traded = put L.traded m 0; cancelled = put L.cancelled m 0; factor = L.factor; totals = L.totals }

abbrev pub factor_entry : ℕ → ℕ → Ledger → Ledger
factor_entry i factor L =
    record { deposit = L.deposit; mode = L.mode; limit = L.limit; accepted = L.accepted; traded = L.traded; cancelled = L.cancelled; factor = put L.factor i factor; totals = L.totals }

abbrev pub deposit_entry : ℕ → ℕ → Ledger → Ledger
deposit_entry m deposit L =
    record { deposit = put L.deposit m deposit; mode = L.mode; limit = L.limit; accepted = L.accepted; traded = L.traded; cancelled = L.cancelled; factor = L.factor; totals = L.totals }

abbrev pub accepted_entry : ℕ → ℕ → Ledger → Ledger
accepted_entry m lots L =
    record { deposit = L.deposit; mode = L.mode; limit = L.limit; accepted = add L.accepted m lots; traded = L.traded; cancelled = L.cancelled; factor = L.factor; totals = L.totals }

-- A trade's lots, before anybody is judged.
abbrev pub trade_entry : Trade → Ledger → Ledger
trade_entry trade L =
    record {
      deposit = L.deposit;
      mode = L.mode;
      limit = L.limit;
      accepted = L.accepted;
      traded = add (add L.traded trade.buyer trade.lots) trade.seller trade.lots;
      cancelled = L.cancelled;
      factor = L.factor;
      totals = add_lots (add_lots L.totals trade.buyer Bid trade.instrument trade.lots) trade.seller Offer trade.instrument trade.lots;
    }

abbrev pub cancel_entry : Cancellation → Ledger → Ledger
cancel_entry cancellation L =
    record { deposit = L.deposit; mode = L.mode; limit = L.limit; accepted = L.accepted; traded = L.traded; cancelled = add L.cancelled cancellation.member cancellation.lots; factor = L.factor; totals = L.totals }

abbrev pub mode_entry : ℕ → Mode → Ledger → Ledger
mode_entry m mode L =
    record { deposit = L.deposit; mode = put L.mode m mode; limit = L.limit; accepted = L.accepted; traded = L.traded; cancelled = L.cancelled; factor = L.factor; totals = L.totals }

-- The party of a trade that did not place the order.
abbrev pub other_party : Trade → ℕ → ℕ
other_party trade placing = cond (placing == trade.buyer) trade.seller trade.buyer

-- Who made the call; of a call that no member makes, 0, which no entry reads.
abbrev pub calling_member : Call → ℕ
calling_member (Admit member benchmarks limits) = member
calling_member (Define instrument benchmark group factor) = 0
calling_member Open = 0
calling_member (Deposit member amount) = member
calling_member (Withdraw member amount) = member
calling_member (Place new) = new.member
calling_member (Cancel member number) = member
calling_member (CancelAll member) = member
calling_member Close = 0
calling_member (AskStanding member) = member
calling_member (AskQuotes instrument) = 0
calling_member (AskListing instrument) = 0

module _ (charge : Charge) where
  -- A member's need by the ledger: the charge on the trades entered.
  abbrev pub owed : Ledger → ℕ → ℕ
  owed L m = charge L.factor (L.totals m)

  abbrev pub judge_entry : ℕ → Ledger → Ledger
  judge_entry m L = mode_entry m (judged (owed L m) (L.deposit m) (L.mode m)) L

  -- A trade judges the placing member, then the other.
  abbrev pub event_entry : ℕ → Event → Ledger → Ledger
  event_entry placing (Traded trade) L = judge_entry (other_party trade placing) (judge_entry placing (trade_entry trade L))
  event_entry placing (Cancelled cancellation) L = cancel_entry cancellation L

  abbrev pub event_entries : ℕ → List Event → Ledger → Ledger
  event_entries placing [] L = L
  event_entries placing (event ∷ events) L = event_entries placing events (event_entry placing event L)

  -- What an accepted call enters before its events.
  abbrev pub call_entry : Call → Ledger → Ledger
  call_entry (Admit member benchmarks limits) L = admit_entry member (highest_limit limits) L
  call_entry (Define instrument benchmark group factor) L = factor_entry instrument factor L
  call_entry Open L = L
  call_entry (Deposit member amount) L = judge_entry member (deposit_entry member (L.deposit member + amount) L)
  call_entry (Withdraw member amount) L = judge_entry member (deposit_entry member (L.deposit member - amount) L)
  call_entry (Place new) L = accepted_entry new.member new.lots L
  call_entry (Cancel member number) L = L
  call_entry (CancelAll member) L = L
  call_entry Close L = L
  call_entry (AskStanding member) L = L
  call_entry (AskQuotes instrument) L = L
  call_entry (AskListing instrument) L = L

  -- Refused calls are passed over.
  abbrev pub deed_entry : Deed → Ledger → Ledger
  deed_entry deed L =
      cond (is_ok deed.answer) (event_entries (calling_member deed.call) deed.events (call_entry deed.call L)) L

  abbrev pub ledger_from : Ledger → List Deed → Ledger
  ledger_from L [] = L
  ledger_from L (deed ∷ deeds) = ledger_from (deed_entry deed L) deeds

  unfoldable pub ledger : List Deed → Ledger
  ledger deeds = ledger_from blank_ledger deeds

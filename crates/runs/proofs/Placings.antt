-- A place that no ground refuses: it begins to meet, and its rest is stored or cancelled.
use Rattle.std.proofs.Common.{◌≡◌, ℕ, suc, ◌+◌, ◌<◌, ◌≤◌, Bool, true, false, cond, ltb, [], length, sym, refl, ap, subst, arith}
use Rattle.std.proofs.lemmas.Bool.{cond_both, ltb-true, ltb-false, false≢true}
use Rattle.terms.specs.declared.Order.{Order}
use Rattle.terms.specs.declared.Side.TheVariants.{Bid}
use Rattle.terms.specs.declared.Term.{Term}
use Rattle.terms.specs.declared.Term.TheVariants.{Day, Immediate}
use Rattle.row.specs.Rates.{precedes}
use Rattle.row.specs.Rows.{inserted}
use Rattle.margin.specs.Sheets.{Charge}
use Rattle.margin.specs.Laws.{RiseBounded}
use Rattle.market.specs.declared.calls.Call.TheVariants.{Place}
use Rattle.market.specs.declared.calls.Phase.TheVariants.{Open}
use Rattle.market.specs.declared.events.Reason.TheVariants.{NotMetAtOnce}
use Rattle.market.specs.declared.members.Mode.TheVariants.{Normal}
use Rattle.market.specs.declared.orders.NewOrder.{NewOrder}
use Rattle.market.specs.Markets.{Market, with_given, is_of, lots_of, pending_orders}
use Rattle.market.specs.Limits.{highest_limit}
use Rattle.market.specs.Meeting.{Meeting, order_of, ends_cancelled, met, stored, settled_by, settled, placed}
use Rattle.runs.specs.Ledgers.{Ledger, accepted_entry, event_entries}
use Rattle.market.proofs.Weights.{sum_over_inserted, book_sum_put, pending_length}
use Rattle.runs.proofs.Orders.{orderly_stored}
use Rattle.runs.proofs.Counts.{Counted, counted_stored}
use Rattle.market.proofs.Sums.{eqb_swap}
use Rattle.runs.proofs.Reaches.{reached_begins, reached_stored}
use Rattle.runs.proofs.Accounts.{rest_of_none, agree_left}
use Rattle.runs.proofs.Holds.{Holds, left}
use Rattle.runs.proofs.Meetings.{Mid, mid_turns, mid_ends_cancelled}
use Rattle.runs.proofs.Between.{Between, Kept, holds_idle, holds_later, not_set_up, coming_none}

-- Events and pending orders together: a day order is only accepted with a free place.
abbrev pub most_of : Term → ℕ
most_of Day = 256
most_of Immediate = 257

-- What the grounds leave of a place.
pub record Acceptable (reach : ℕ) (M : Market) (new : NewOrder) : Type 0 where
  pub in_table : new.member < 32
  pub in_range : new.instrument < 16
  pub is_defined : (M.instruments new.instrument).defined ≡ true
  pub some : 0 < new.lots
  pub small : new.lots ≤ highest_limit (M.members new.member).limits
  pub room : M.sheet.held new.member new.side new.instrument + lots_of new.member (M.rows new.side new.instrument) + new.lots ≤ reach
  pub daily : new.term ≡ Day → (M.members new.member).mode ≡ Normal
  pub free_place : length (pending_orders M.rows) + 1 ≤ most_of new.term
  pub is_open : M.phase ≡ Open

module _ (charge : Charge) (reach : ℕ) (rise : RiseBounded charge reach) (L : Ledger) (M : Market) (new : NewOrder) (ok : Acceptable reach M new) (h : Between charge reach L M) where
  abbrev accepted : Ledger
  accepted = accepted_entry new.member new.lots L

  abbrev number : ℕ
  number = suc M.given

  abbrev begun : Meeting
  begun = record { market = with_given M number; rest = new.lots; meets = true; events = [] }

  MidWay : ℕ → Meeting → Type 0
  MidWay = Mid charge reach accepted M.given (most_of new.term) new M.instruments

  holds_begun : Holds charge reach new.side new.member new.instrument M.given (most_of new.term) accepted (with_given M number) 0 (λ _. false) new.lots
  holds_begun =
      let g = h.holds in
      record {
        orderly = g.orderly;
        counted = record { few = omega (arith, ok.free_place, pending_length M.rows); within = g.counted.within; once = g.counted.once; none_above = g.counted.none_above };
        margined = g.margined;
        reached = reached_begins reach M.sheet.held M.rows new.side new.member new.instrument new.lots (λ k s j. omega (arith, g.reached k s j)) ok.room;
        balanced = g.balanced;
        agree = record { deposit = g.agree.deposit; mode = g.agree.mode; limit = g.agree.limit; lots = λ k. omega (arith, g.agree.lots k, rest_of_none 0 k); factor = g.agree.factor; totals = g.agree.totals };
        known = g.known;
      }

  mid_begun : Mid charge reach accepted M.given (most_of new.term) new M.instruments new.lots begun
  mid_begun = record { holds = holds_begun; small = ok.small; fits = λ _. (ok.some, omega arith); clear = λ e. absurd (false≢true (sym e)); daily = λ e _. ok.daily e; risk = tt; same_instruments = refl; phase = ok.is_open; numbers = refl }

  meeting_over : (s : Meeting) → Mid charge reach accepted M.given (most_of new.term) new M.instruments 0 s → s.meets ≡ false
  meeting_over s g = go s.meets g.fits
    where
      go : (b : Bool) → (b ≡ true → (0 < s.rest) × (s.rest ≤ 0)) → b ≡ false
      go true f = absurd (let l = f refl in omega arith)
      go false f = refl

  most_257 : (term : Term) → most_of term ≤ 257
  most_257 Day = omega arith
  most_257 Immediate = omega arith

  -- Nothing is left of the order.
  kept_done : (s : Meeting) → s.rest ≡ 0 → Mid charge reach accepted M.given (most_of new.term) new M.instruments 0 s → Kept charge reach L (Place new) (record { market = s.market; events = s.events })
  kept_done s none g =
      record {
        between =
            record {
              holds = subst (λ n. Holds charge reach Bid 0 0 n 256 (event_entries charge new.member s.events accepted) s.market 0 (λ _. false) 0) (sym g.numbers) (holds_later charge reach Bid 0 0 M.given 256 (event_entries charge new.member s.events accepted) s.market 0 0 (holds_idle charge reach new.side new.member new.instrument Bid 0 0 M.given (most_of new.term) (length s.events) (event_entries charge new.member s.events accepted) s.market (subst (λ z. Holds charge reach new.side new.member new.instrument M.given (most_of new.term) (event_entries charge new.member s.events accepted) s.market (length s.events) (λ _. false) z) none g.holds)));
              quiet = λ e. not_set_up s.market.phase g.phase e;
            };
        risk = g.risk;
        few = omega (arith, g.holds.counted.few, most_257 new.term);
      }

  -- A day order's rest is stored.
  module _ (s : Meeting) (day : new.term ≡ Day) (rest : 0 < s.rest) (g : Mid charge reach accepted M.given (most_of new.term) new M.instruments 0 s) where
    abbrev order : Order
    order = order_of number new s.rest

    abbrev entered : Ledger
    entered = event_entries charge new.member s.events accepted

    counted_day : Counted M.given (length s.events) 256 s.rest s.market.rows
    counted_day = subst (λ t. Counted M.given (length s.events) (most_of t) s.rest s.market.rows) day g.holds.counted

    less : (k : ℕ) → left s.market.rows new.member s.rest k ≡ left (stored number new s.market s.rest).rows 0 0 k
    less k =
        let book = book_sum_put (λ o. cond (is_of k o) o.lots 0) s.market.rows new.side new.instrument (inserted (precedes new.side) order (s.market.rows new.side new.instrument)) ok.in_range in
        let row = sum_over_inserted (λ o. cond (is_of k o) o.lots 0) (precedes new.side) order (s.market.rows new.side new.instrument) in
        let swap = ap (λ b. cond b s.rest 0) (eqb_swap k new.member) in
        omega (arith, rest_of_none 0 k)

    holds_stored : Holds charge reach Bid 0 0 (suc M.given) 256 entered (stored number new s.market s.rest) 0 (λ _. false) 0
    holds_stored =
        let counts = counted_stored M.given (length s.events) s.rest s.market.rows new.side new.instrument (precedes new.side) order ok.in_range rest refl counted_day in
        record {
          orderly = orderly_stored M.given s.market.members s.market.rows new.side new.instrument order refl (record { in_table = ok.in_table; active = g.daily day rest; some = rest; small = g.small; numbered = omega arith }) (g.clear (meeting_over s g) rest) g.holds.orderly;
          counted = record { few = omega (arith, counts.within); within = counts.within; once = counts.once; none_above = counts.none_above };
          margined = g.holds.margined;
          reached = λ k t j. omega (arith, reached_stored reach s.market.sheet.held s.market.rows new.side new.instrument order g.holds.reached k t j, coming_none Bid 0 0 k t j);
          balanced = g.holds.balanced;
          agree = agree_left charge entered (λ _. false) s.market.members s.market.sheet (left s.market.rows new.member s.rest) (left (stored number new s.market s.rest).rows 0 0) less g.holds.agree;
          known = g.holds.known;
        }

    kept_stored : Kept charge reach L (Place new) (record { market = stored number new s.market s.rest; events = s.events })
    kept_stored =
        record {
          between = record { holds = subst (λ n. Holds charge reach Bid 0 0 n 256 entered (stored number new s.market s.rest) 0 (λ _. false) 0) (sym g.numbers) holds_stored; quiet = λ e. not_set_up s.market.phase g.phase e };
          risk = g.risk;
          few = omega (arith, counted_day.few);
        }

  kept_settled_by : (s : Meeting) (term : Term) → new.term ≡ term → 0 < s.rest → Mid charge reach accepted M.given (most_of new.term) new M.instruments 0 s → Kept charge reach L (Place new) (settled_by term number new s)
  kept_settled_by s Day day rest g = kept_stored s day rest g
  kept_settled_by s Immediate _ rest g = kept_done (ends_cancelled number new NotMetAtOnce s) refl (mid_ends_cancelled charge reach accepted M.given (most_of new.term) new M.instruments 0 0 number NotMetAtOnce s g)

  kept_settled : (s : Meeting) → Mid charge reach accepted M.given (most_of new.term) new M.instruments 0 s → Kept charge reach L (Place new) (settled number new s)
  kept_settled s g =
      cond_both (ltb 0 s.rest) _ _ (Kept charge reach L (Place new))
      (λ e. kept_settled_by s new.term refl (ltb-true 0 s.rest e) g)
      (λ e. kept_done s (omega (arith, ltb-false 0 s.rest e)) g)

  pub kept_placed : Kept charge reach L (Place new) (placed charge reach M new)
  kept_placed = kept_settled (met charge reach number new (with_given M number)) (mid_turns charge reach rise accepted M.given (most_of new.term) new M.instruments ok.in_table ok.in_range ok.is_defined number new.lots begun mid_begun)

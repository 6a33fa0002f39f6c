-- AllByRecursion that holds of a venue and its ledger, between calls and while an order is placed; kept by each kind of change.
use Rattle.std.proofs.Common.{◌≡◌, ℕ, ◌+◌, ◌-◌, ◌<◌, ◌≤◌, min, Bool, true, false, cond, not, ◌&&◌, ◌||◌, eqb, ltb, leb, List, [], ◌∷◌, length, sym, refl, ap, ◌∙◌, subst, arith}
use lib.ListN.{length-map}
use Rattle.std.specs.List.{AllByRecursion}
use Rattle.std.proofs.lemmas.Bool.{cond-true, cond_both, eq-eqb, ne_eqb, lt-ltb, le-leb, and_from, not_from_false, ltb-false}
use Rattle.terms.specs.declared.Order.{Order}
use Rattle.terms.specs.declared.Side.{Side}
use Rattle.terms.specs.declared.Side.TheVariants.{Bid, Offer}
use Rattle.margin.specs.Sheets.{Totals, Sheet, Charge, raised, need_of, can_record, can_record_trade}
use Rattle.margin.specs.Laws.{Within, RiseBounded}
use Rattle.market.specs.declared.events.Event.{Event}
use Rattle.market.specs.declared.events.Event.TheVariants.{Traded}
use Rattle.market.specs.declared.events.Reason.{Reason}
use Rattle.market.specs.declared.members.Mode.TheVariants.{Reduction}
use Rattle.market.specs.declared.orders.NewOrder.{NewOrder}
use Rattle.market.specs.Markets.{Market, Rows, put_row, is_of, lots_of, pending_lots}
use Rattle.market.specs.Limits.{highest_limit}
use Rattle.market.specs.Cancels.{cancelled, rows_without, picked_orders, cancelling}
use Rattle.market.specs.Modes.{judged, need, has_fallen, judge}
use Rattle.market.specs.Meeting.{opposite, by_side, row_filled, trade_of, rest_cancelled, after_fill}
use Rattle.market.specs.TableRows.{Instrument}
use Rattle.runs.specs.Ledgers.{Ledger, event_entry, event_entries}
use Rattle.market.proofs.Weights.{book_sum_without, book_sum_put}
use Rattle.runs.proofs.Orders.{Stands, Orderly, orderly_without, orderly_judged, orderly_filled}
use Rattle.runs.proofs.Counts.{Counted, counted_without, counted_rest_cancelled, counted_filled}
use Rattle.market.proofs.Sums.{eqb_swap}
use Rattle.runs.proofs.Totals.{trade_totals, traded_totals, need_on}
use Rattle.runs.proofs.Margins.{Margined, margined_judged, margined_traded}
use Rattle.runs.proofs.Reaches.{coming, Reached, reached_without, reached_less, reached_traded, Balanced, balanced_traded, lots_of_filled, lots_of_first}
use Rattle.runs.proofs.Accounts.{Agree, rest_of, rest_of_none, rest_of_part, agree_cancelled, agree_rest_cancelled, agree_judged, agree_traded}

-- An instrument has a factor exactly if it is defined.
pub record Known (instruments : ℕ → Instrument) (sheet : Sheet) : Type 0 where
  pub has_factor : (i : ℕ) → (instruments i).defined ≡ true → 0 < sheet.factor i
  pub no_factor : (i : ℕ) → (instruments i).defined ≡ false → sheet.factor i ≡ 0

-- The lots of each member that are neither traded nor cancelled: pending, or the rest of the order that is placed.
abbrev pub left : Rows → ℕ → ℕ → ℕ → ℕ
left rows a rest k = pending_lots rows k + rest_of a rest k

module _ (charge : Charge) (reach : ℕ) where
  -- The member a places an order on one side of the instrument i, of which `rest` is left; numbers up to `given` may stand,
  -- `told` events are told, and members in `waiting` are still to be judged. Between calls the rest is 0 and nobody waits.
  pub record Holds (side : Side) (a i : ℕ) (given most : ℕ) (L : Ledger) (M : Market) (told : ℕ) (waiting : ℕ → Bool) (rest : ℕ) : Type 0 where
    pub orderly : Orderly given M.members M.rows
    pub counted : Counted given told most rest M.rows
    pub margined : Margined charge waiting M.members M.sheet
    pub reached : Reached reach M.sheet.held M.rows (coming side a i rest)
    pub balanced : Balanced M.sheet.held
    pub agree : Agree charge L waiting M.members M.sheet (left M.rows a rest)
    pub known : Known M.instruments M.sheet

module _ (charge : Charge) (reach : ℕ) (side : Side) (a i : ℕ) (given most : ℕ) where
  -- ---- cancels

  pub holds_cancelled : (placing : ℕ) (picked : Order → Bool) (reason : Reason) (L : Ledger) (M : Market) (told : ℕ) (waiting : ℕ → Bool) (rest : ℕ) → Holds charge reach side a i given most L M told waiting rest → Holds charge reach side a i given most (event_entries charge placing (cancelling picked reason M).events L) (cancelling picked reason M).market (told + length (cancelling picked reason M).events) waiting rest
  holds_cancelled placing picked reason L M told waiting rest h =
      record {
        orderly = orderly_without given M.members M.members M.rows picked (λ o _ stands. stands) h.orderly;
        counted = subst (λ n. Counted given (told + n) most rest (rows_without picked M.rows)) (sym (length-map (picked_orders picked M.rows) (cancelled reason))) (counted_without given told most rest M.rows picked h.counted);
        margined = h.margined;
        reached = reached_without reach M.sheet.held M.rows (coming side a i rest) picked h.reached;
        balanced = h.balanced;
        agree = agree_cancelled charge placing reason (picked_orders picked M.rows) L waiting M.members M.sheet (left M.rows a rest) (left (rows_without picked M.rows) a rest) (λ k. omega (arith, book_sum_without (λ order. cond (is_of k order) order.lots 0) picked M.rows)) h.agree;
        known = h.known;
      }

  pub holds_rest_cancelled : (placing number : ℕ) (new : NewOrder) (reason : Reason) (L : Ledger) (M : Market) (told : ℕ) (waiting : ℕ → Bool) (rest : ℕ) → new.member ≡ a → Holds charge reach side a i given most L M told waiting rest → Holds charge reach side a i given most (event_entries charge placing (rest_cancelled number new reason rest) L) M (told + length (rest_cancelled number new reason rest)) waiting 0
  holds_rest_cancelled placing number new reason L M told waiting rest own h =
      record {
        orderly = h.orderly;
        counted = counted_rest_cancelled given told most rest (length (rest_cancelled number new reason rest)) M.rows at_most_one h.counted;
        margined = h.margined;
        reached = reached_less reach M.sheet.held M.rows side a i rest 0 (omega arith) h.reached;
        balanced = h.balanced;
        agree = agree_rest_cancelled charge placing number new reason rest L waiting M.members M.sheet (left M.rows a rest) (left M.rows a 0) (λ k. omega (arith, rest_of_none a k, ap (λ z. rest_of z rest k) own)) h.agree;
        known = h.known;
      }
    where
      at_most_one : length (rest_cancelled number new reason rest) ≤ min 1 rest
      at_most_one = cond_both (ltb 0 rest) _ [] (λ (es : List Event). length es ≤ min 1 rest) (λ e. omega (arith, Rattle.std.proofs.lemmas.Bool.ltb-true 0 rest e)) (λ _. omega arith)

  -- ---- judging

  pub holds_judged : (placing m : ℕ) (L : Ledger) (M : Market) (told : ℕ) (waiting fewer : ℕ → Bool) (rest : ℕ) → waiting m ≡ true → fewer m ≡ false → ((k : ℕ) → (m ≡ k → ⊥) → fewer k ≡ waiting k) → Holds charge reach side a i given most L M told waiting rest → Holds charge reach side a i given most (event_entries charge placing (judge charge M m).events L) (judge charge M m).market (told + length (judge charge M m).events) fewer rest
  holds_judged placing m L M told waiting fewer rest waits no_more others h =
      let lost : Order → Bool = λ order. has_fallen charge M m && is_of m order in
      let cancels = holds_cancelled placing lost Rattle.market.specs.declared.events.Reason.TheVariants.TurnedToReduction L M told waiting rest h in
      record {
        orderly = orderly_judged given M.members M.rows m (judged (need charge M m) (M.members m).deposit (M.members m).mode) h.orderly;
        counted = cancels.counted;
        margined = margined_judged charge waiting fewer M.members M.sheet m others h.margined;
        reached = cancels.reached;
        balanced = h.balanced;
        agree = agree_judged charge (event_entries charge placing (judge charge M m).events L) waiting fewer M.members M.sheet (left (rows_without lost M.rows) a rest) m waits no_more others cancels.agree;
        known = h.known;
      }

-- ---- a trade

module _ (charge : Charge) (reach : ℕ) (rise : RiseBounded charge reach) (given most : ℕ) (new : NewOrder) (number : ℕ) (L : Ledger) (M : Market) (told rest : ℕ) (pending : Order) (others : List Order)
    (in_table : new.member < 32) (in_range : new.instrument < 16) (defined : (M.instruments new.instrument).defined ≡ true)
    (some : 0 < rest) (small : rest ≤ highest_limit (M.members new.member).limits)
    (here : M.rows (opposite new.side) new.instrument ≡ (pending ∷ others)) (different : eqb new.member pending.member ≡ false)
    (lowered : (M.members new.member).mode ≡ Reduction → need_on charge M.sheet.factor (raised (M.sheet.held new.member) new.side new.instrument (min rest pending.lots)) new.member < need_of charge M.sheet new.member)
    (h : Holds charge reach new.side new.member new.instrument given most L M told (λ _. false) rest) where
  abbrev lots : ℕ
  lots = min rest pending.lots

  abbrev held_after : ℕ → Totals
  held_after = trade_totals M.sheet.held new.side new.member pending.member new.instrument lots

  pub stands : Stands given M.members pending
  stands = (subst (AllByRecursion (Stands given M.members)) here (h.orderly.standing (opposite new.side) new.instrument)).0

  within : (k : ℕ) → Within reach (M.sheet.held k)
  within k s j = omega (arith, h.reached k s j)

  coming_here : (side : Side) (m j more : ℕ) → coming side m j more m side j ≡ more
  coming_here Bid m j more = cond-true (eqb m m && eqb j j) more 0 (and_from (eqb m m) (eqb j j) (eq-eqb m m refl) (eq-eqb j j refl))
  coming_here Offer m j more = cond-true (eqb m m && eqb j j) more 0 (and_from (eqb m m) (eqb j j) (eq-eqb m m refl) (eq-eqb j j refl))

  fits_placing : M.sheet.held new.member new.side new.instrument + lots ≤ reach
  fits_placing = omega (arith, h.reached new.member new.side new.instrument, coming_here new.side new.member new.instrument rest)

  fits_other : M.sheet.held pending.member (opposite new.side) new.instrument + lots ≤ reach
  fits_other = omega (arith, h.reached pending.member (opposite new.side) new.instrument, lots_of_first pending others, ap (lots_of pending.member) here)

  can : (m : ℕ) (s : Side) → m < 32 → M.sheet.held m s new.instrument + lots ≤ reach → can_record reach M.sheet m new.instrument s lots ≡ true
  can m s l fits =
      and_from (ltb m 32) _ (lt-ltb m 32 l)
      (and_from (not (eqb (M.sheet.factor new.instrument) 0)) _ (not_from_false (eqb (M.sheet.factor new.instrument) 0) (ne_eqb (M.sheet.factor new.instrument) 0 (λ e. omega (arith, h.known.has_factor new.instrument defined))))
      (and_from (leb 1 lots) _ (le-leb 1 lots (omega (arith, stands.some))) (le-leb (M.sheet.held m s new.instrument + lots) reach fits)))

  can_both : (side : Side) → M.sheet.held new.member side new.instrument + lots ≤ reach → M.sheet.held pending.member (opposite side) new.instrument + lots ≤ reach → can_record_trade reach M.sheet (by_side side new.member pending.member) (by_side side pending.member new.member) new.instrument lots ≡ true
  can_both Bid p o = and_from _ _ (can new.member Bid in_table p) (can pending.member Offer stands.in_table o)
  can_both Offer p o = and_from _ _ (can pending.member Bid stands.in_table o) (can new.member Offer in_table p)

  -- The keeper refuses nothing, and holds the totals that the ledger enters.
  sheet_after : (after_fill charge reach M new pending others lots).sheet ≡ record { factor = M.sheet.factor; held = held_after }
  sheet_after =
      cond-true (can_record_trade reach M.sheet (by_side new.side new.member pending.member) (by_side new.side pending.member new.member) new.instrument lots) _ M.sheet (can_both new.side fits_placing fits_other)
      ∙ ap (λ (t : ℕ → Totals). record { factor = M.sheet.factor; held = t }) (traded_totals M.sheet new.side new.member pending.member new.instrument lots)

  pub holds_traded : Holds charge reach new.side new.member new.instrument given most (event_entry charge new.member (Traded (trade_of number new pending lots)) L) (after_fill charge reach M new pending others lots) (told + 1) (λ k. eqb new.member k || eqb pending.member k) (rest - lots)
  holds_traded =
      let filled = put_row M.rows (opposite new.side) new.instrument (row_filled pending lots others) in
      let both : ℕ → Bool = λ k. eqb new.member k || eqb pending.member k in
      record {
        orderly = orderly_filled given M.members M.rows (opposite new.side) new.instrument lots pending others here h.orderly;
        counted = counted_filled given told most rest M.rows (opposite new.side) new.instrument pending others in_range some here h.counted;
        margined = subst (Margined charge both M.members) (sym sheet_after) (margined_traded charge reach rise M.members M.sheet new.side new.member pending.member new.instrument lots different within in_range fits_placing fits_other (omega arith) (omega (arith, stands.small)) lowered stands.active h.margined);
        reached = subst (λ (t : Sheet). Reached reach t.held filled (coming new.side new.member new.instrument (rest - lots))) (sym sheet_after) (reached_traded reach M.sheet.held M.rows new.side new.member new.instrument lots rest pending others here (omega arith) (omega arith) h.reached);
        balanced = subst (λ (t : Sheet). Balanced t.held) (sym sheet_after) (balanced_traded M.sheet.held new.side new.member pending.member new.instrument lots in_table stands.in_table h.balanced);
        agree = subst (λ t. Agree charge (event_entry charge new.member (Traded (trade_of number new pending lots)) L) both M.members t (left filled new.member (rest - lots))) (sym sheet_after) (agree_traded charge L M.members M.sheet (left M.rows new.member rest) (left filled new.member (rest - lots)) new pending number lots different in_table stands.in_table less h.agree);
        known = subst (Known M.instruments) (sym sheet_after) (record { has_factor = h.known.has_factor; no_factor = h.known.no_factor });
      }
    where
      less : (k : ℕ) → left M.rows new.member rest k ≡ left (put_row M.rows (opposite new.side) new.instrument (row_filled pending lots others)) new.member (rest - lots) k + (rest_of new.member lots k + rest_of pending.member lots k)
      less k =
          let book = book_sum_put (λ order. cond (is_of k order) order.lots 0) M.rows (opposite new.side) new.instrument (row_filled pending lots others) in_range in
          let row = lots_of_filled k pending lots others (omega arith) in
          let old = ap (lots_of k) here in
          let swap = ap (λ b. cond b lots 0) (eqb_swap k pending.member) in
          let part = rest_of_part new.member k rest lots (omega arith) in
          omega arith

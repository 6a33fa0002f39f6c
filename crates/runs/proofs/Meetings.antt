-- A placed order on its way: what holds of it, turn by turn.
use Rattle.std.proofs.Common.{◌≡◌, ℕ, zero, suc, ◌+◌, ◌-◌, ◌<◌, ◌≤◌, min, Bool, true, false, cond, not, ◌&&◌, ◌||◌, eqb, ltb, List, [], ◌∷◌, ◌++◌, length, sym, refl, ap, ◌∙◌, subst, arith, length-append}
use Rattle.std.specs.List.{AllByRecursion}
use Rattle.std.proofs.lemmas.Bool.{cond_both, cond-true, cond-false, eq-eqb, ne_eqb, ltb-true, ltb-false, or_left, both_ways, false≢true, lt-ltb}
use Rattle.terms.specs.declared.Order.{Order}
use Rattle.terms.specs.declared.Side.{Side}
use Rattle.terms.specs.declared.Side.TheVariants.{Bid, Offer}
use Rattle.terms.specs.declared.Term.TheVariants.{Day}
use Rattle.terms.proofs.Tables.{put_cases, put_here}
use Rattle.margin.specs.Sheets.{Totals, Charge, raised, recorded, can_record, need_of}
use Rattle.margin.specs.Laws.{RiseBounded}
use Rattle.margin.specs.declared.refusal.KeeperRefusal.{KeeperRefusal}
use Rattle.market.specs.declared.calls.Phase.TheVariants.{Open}
use Rattle.market.specs.declared.events.Event.{Event}
use Rattle.market.specs.declared.events.Event.TheVariants.{Traded}
use Rattle.market.specs.declared.events.Reason.{Reason}
use Rattle.market.specs.declared.events.Reason.TheVariants.{OwnOrder, TurnedToReduction, NeedNotLowered}
use Rattle.market.specs.declared.members.Mode.{Mode}
use Rattle.market.specs.declared.members.Mode.TheVariants.{Reduction, Normal}
use Rattle.market.specs.declared.orders.NewOrder.{NewOrder}
use Rattle.market.specs.Markets.{Market, is_of}
use Rattle.market.specs.Limits.{highest_limit}
use Rattle.market.specs.Cancels.{picked_orders}
use Rattle.market.specs.Modes.{judged, judged_member, is_reduction, falls, need, has_fallen, judge}
use Rattle.market.specs.Meeting.{Meeting, opposite, by_side, apart, trade_of, rest_cancelled, ends, ends_cancelled, repeated, is_below, lowers_need, is_hindered, after_fill, fill, meeting_first, turn}
use Rattle.market.specs.TableRows.{Member, Instrument}
use Rattle.runs.specs.Ledgers.{Ledger, owed, trade_entry, event_entry, event_entries}
use Rattle.runs.specs.Promises.{LowersNeed, EventsReduceRisk}
use Rattle.runs.proofs.Sequence.{Sequenced, apart_from_all}
use Rattle.runs.proofs.Orders.{Members, Stands}
use Rattle.market.proofs.Sums.{eqb_swap}
use Rattle.runs.proofs.Totals.{placing_totals, need_on}
use Rattle.runs.proofs.Margins.{not_both_modes}
use Rattle.runs.proofs.Accounts.{owed_is, entered_totals, entries_append}
use Rattle.runs.proofs.Risk.{risk_append, risk_cancelled, risk_rest_cancelled}
use Rattle.runs.proofs.Holds.{Holds, holds_rest_cancelled, holds_judged, stands, holds_traded}

-- ---- what a member in reduction mode may trade

-- The keeper's answer to the question, where it refuses nothing.
lowered_from : (may : Bool) (with_lots need : ℕ) (refusal : KeeperRefusal) → is_below (cond may (Rattle.std.specs.declared.result.Result.TheVariants.Ok with_lots) (Rattle.std.specs.declared.result.Result.TheVariants.Err refusal)) need ≡ true → with_lots < need
lowered_from true with_lots need refusal e = ltb-true with_lots need e
lowered_from false with_lots need refusal e = absurd (false≢true e)

not_hindered : (mode : Mode) (lowers : Bool) → (is_reduction mode && not lowers) ≡ false → mode ≡ Reduction → lowers ≡ true
not_hindered Reduction true e r = refl
not_hindered Reduction false e r = absurd (false≢true (sym e))
not_hindered Normal lowers e r = absurd (let z : ◌≡◌ {A = ℕ} 0 1 = cc in omega arith)

stays_normal : (before after : Mode) → before ≡ Normal → falls before after ≡ false → after ≡ Normal
stays_normal before Normal e f = refl
stays_normal before Reduction e f = grind arith

module _ (charge : Charge) (reach : ℕ) (L : Ledger) (given most : ℕ) (new : NewOrder) (instruments : ℕ → Instrument) where
  -- L is the ledger with the order accepted, before its events; there are at most `fuel` turns more.
  pub record Mid (fuel : ℕ) (s : Meeting) : Type 0 where
    pub holds : Holds charge reach new.side new.member new.instrument given most (event_entries charge new.member s.events L) s.market (length s.events) (λ _. false) s.rest
    pub small : s.rest ≤ highest_limit (s.market.members new.member).limits
    pub fits : s.meets ≡ true → (0 < s.rest) × (s.rest ≤ fuel)
    pub clear : s.meets ≡ false → 0 < s.rest → AllByRecursion (λ o. apart new.side new.rate o.rate ≡ true) (s.market.rows (opposite new.side) new.instrument)
    pub daily : new.term ≡ Day → 0 < s.rest → (s.market.members new.member).mode ≡ Normal
    pub risk : EventsReduceRisk charge new.member L s.events
    pub same_instruments : s.market.instruments ≡ instruments
    pub phase : s.market.phase ≡ Open
    pub numbers : s.market.given ≡ suc given

  mid_ends : (fuel : ℕ) (s : Meeting) → AllByRecursion (λ o. apart new.side new.rate o.rate ≡ true) (s.market.rows (opposite new.side) new.instrument) → Mid (suc fuel) s → Mid fuel (ends s)
  mid_ends fuel s all h = record { holds = h.holds; small = h.small; fits = λ e. absurd (false≢true e); clear = λ _ _. all; daily = h.daily; risk = h.risk; same_instruments = h.same_instruments; phase = h.phase; numbers = h.numbers }

  -- Events added to those told so far.
  more_events : (s : Meeting) (es : List Event) (M : Market) (rest : ℕ) → Holds charge reach new.side new.member new.instrument given most (event_entries charge new.member es (event_entries charge new.member s.events L)) M (length s.events + length es) (λ _. false) rest → Holds charge reach new.side new.member new.instrument given most (event_entries charge new.member (s.events ++ es) L) M (length (s.events ++ es)) (λ _. false) rest
  more_events s es M rest h =
      subst (λ n. Holds charge reach new.side new.member new.instrument given most (event_entries charge new.member (s.events ++ es) L) M n (λ _. false) rest) (sym (length-append s.events es))
      (subst (λ K. Holds charge reach new.side new.member new.instrument given most K M (length s.events + length es) (λ _. false) rest) (sym (entries_append charge new.member s.events es L)) h)

  pub mid_ends_cancelled : (fuel any number : ℕ) (reason : Reason) (s : Meeting) → Mid any s → Mid fuel (ends_cancelled number new reason s)
  mid_ends_cancelled fuel any number reason s h =
      record {
        holds = more_events s (rest_cancelled number new reason s.rest) s.market 0 (holds_rest_cancelled charge reach new.side new.member new.instrument given most new.member number new reason (event_entries charge new.member s.events L) s.market (length s.events) (λ _. false) s.rest refl h.holds);
        small = omega arith;
        fits = λ e. absurd (false≢true e);
        clear = λ _ l. absurd (omega arith);
        daily = λ _ l. absurd (omega arith);
        risk = risk_append charge new.member s.events (rest_cancelled number new reason s.rest) L h.risk (risk_rest_cancelled charge new.member number new reason s.rest (event_entries charge new.member s.events L));
        same_instruments = h.same_instruments;
        phase = h.phase;
        numbers = h.numbers;
      }

-- ---- a fill

cut_fits : (fallen : Bool) (rest q fuel : ℕ) → 0 < q → rest ≤ suc fuel → (not fallen && ltb 0 (rest - q)) ≡ true → (0 < cond fallen 0 (rest - q)) × (cond fallen 0 (rest - q) ≤ fuel)
cut_fits true rest q fuel l m e = absurd (false≢true e)
cut_fits false rest q fuel l m e = (ltb-true 0 (rest - q) e, omega arith)

cut_over : {A : Type 0} (fallen : Bool) (rest : ℕ) → (not fallen && ltb 0 rest) ≡ false → 0 < cond fallen 0 rest → A
cut_over true rest e l = absurd (omega arith)
cut_over false rest e l = absurd (let m = ltb-false 0 rest e in omega arith)

cut_standing : (fallen : Bool) (rest : ℕ) → 0 < cond fallen 0 rest → fallen ≡ false
cut_standing true rest l = absurd (omega arith)
cut_standing false rest l = refl

cut_less : (fallen : Bool) (rest : ℕ) → cond fallen 0 rest ≤ rest
cut_less true rest = omega arith
cut_less false rest = omega arith

by_sides : (P : ℕ → Type 0) (side : Side) (a b : ℕ) → P a → P b → P (by_side side a b) × P (by_side side b a)
by_sides P Bid a b x y = (x, y)
by_sides P Offer a b x y = (y, x)

-- Judging leaves limits as they are.
limits_judged : (need : ℕ) (members : Members) (m k : ℕ) → highest_limit (members k).limits ≤ highest_limit (Rattle.terms.specs.Tables.put members m (judged_member need (members m)) k).limits
limits_judged need members m k = put_cases members m (judged_member need (members m)) k (λ (r : Member). highest_limit (members k).limits ≤ highest_limit r.limits) (λ e. subst (λ z. highest_limit (members k).limits ≤ highest_limit (members z).limits) (sym e) (omega arith)) (λ _. omega arith)

module _ (charge : Charge) (reach : ℕ) (rise : RiseBounded charge reach) (L : Ledger) (given most : ℕ) (new : NewOrder) (instruments : ℕ → Instrument)
    (in_table : new.member < 32) (in_range : new.instrument < 16) (defined : (instruments new.instrument).defined ≡ true) (number : ℕ)
    (fuel : ℕ) (s : Meeting) (pending : Order) (others : List Order) (here : s.market.rows (opposite new.side) new.instrument ≡ (pending ∷ others))
    (different : eqb new.member pending.member ≡ false) (free : is_hindered charge reach s.market new (min s.rest pending.lots) ≡ false) (meets : s.meets ≡ true)
    (h : Mid charge reach L given most new instruments (suc fuel) s) where
  abbrev M0 : Market
  M0 = s.market

  abbrev lots : ℕ
  lots = min s.rest pending.lots

  abbrev L0 : Ledger
  L0 = event_entries charge new.member s.events L

  is_defined : (M0.instruments new.instrument).defined ≡ true
  is_defined = ap (λ (t : ℕ → Instrument). (t new.instrument).defined) h.same_instruments ∙ defined

  lowered : (M0.members new.member).mode ≡ Reduction → need_on charge M0.sheet.factor (raised (M0.sheet.held new.member) new.side new.instrument lots) new.member < need_of charge M0.sheet new.member
  lowered r =
      subst (λ t. need_on charge M0.sheet.factor t new.member < need_of charge M0.sheet new.member) (put_here M0.sheet.held new.member (raised (M0.sheet.held new.member) new.side new.instrument lots))
      (lowered_from (can_record reach M0.sheet new.member new.instrument new.side lots) (need_of charge (recorded M0.sheet new.member new.instrument new.side lots) new.member) (need_of charge M0.sheet new.member) (record {}) (not_hindered (M0.members new.member).mode (lowers_need charge reach M0 new lots) free r))

  standing : Stands given M0.members pending
  standing = stands charge reach rise given most new number L0 M0 (length s.events) s.rest pending others in_table in_range is_defined (h.fits meets).0 h.small here different lowered h.holds

  -- The trade, the placing member judged, its rest, the other member judged.
  abbrev M1 : Market
  M1 = after_fill charge reach M0 new pending others lots

  abbrev M2 : Market
  M2 = (judge charge M1 new.member).market

  abbrev M3 : Market
  M3 = (judge charge M2 pending.member).market

  abbrev fallen : Bool
  fallen = has_fallen charge M1 new.member

  abbrev rest : ℕ
  rest = s.rest - lots

  abbrev rest_after : ℕ
  rest_after = cond fallen 0 rest

  abbrev trading : Event
  trading = Traded (trade_of number new pending lots)

  abbrev mine : List Event
  mine = (judge charge M1 new.member).events

  abbrev own_rest : List Event
  own_rest = cond fallen (rest_cancelled number new TurnedToReduction rest) []

  abbrev theirs : List Event
  theirs = (judge charge M2 pending.member).events

  abbrev L1 : Ledger
  L1 = event_entry charge new.member trading L0

  abbrev L2 : Ledger
  L2 = event_entries charge new.member mine L1

  abbrev L3 : Ledger
  L3 = event_entries charge new.member own_rest L2

  abbrev waiting_1 : ℕ → Bool
  waiting_1 k = eqb new.member k || eqb pending.member k

  abbrev waiting_2 : ℕ → Bool
  waiting_2 k = eqb pending.member k

  abbrev told_1 : ℕ
  told_1 = length s.events + 1

  holds_1 : Holds charge reach new.side new.member new.instrument given most L1 M1 told_1 waiting_1 rest
  holds_1 = holds_traded charge reach rise given most new number L0 M0 (length s.events) s.rest pending others in_table in_range is_defined (h.fits meets).0 h.small here different lowered h.holds

  holds_2 : Holds charge reach new.side new.member new.instrument given most L2 M2 (told_1 + length mine) waiting_2 rest
  holds_2 =
      holds_judged charge reach new.side new.member new.instrument given most new.member new.member L1 M1 told_1 waiting_1 waiting_2 rest
      (or_left (eqb new.member new.member) _ (eq-eqb new.member new.member refl)) (eqb_swap pending.member new.member ∙ different)
      (λ k ne. ap (λ b. b || eqb pending.member k) (sym (ne_eqb new.member k ne)))
      holds_1

  holds_3 : Holds charge reach new.side new.member new.instrument given most L3 M2 (told_1 + length mine + length own_rest) waiting_2 rest_after
  holds_3 = go fallen
    where
      go : (b : Bool) → Holds charge reach new.side new.member new.instrument given most (event_entries charge new.member (cond b (rest_cancelled number new TurnedToReduction rest) []) L2) M2 (told_1 + length mine + length (cond b (rest_cancelled number new TurnedToReduction rest) [])) waiting_2 (cond b 0 rest)
      go true = holds_rest_cancelled charge reach new.side new.member new.instrument given most new.member number new TurnedToReduction L2 M2 (told_1 + length mine) waiting_2 rest refl holds_2
      go false = subst (λ n. Holds charge reach new.side new.member new.instrument given most L2 M2 n waiting_2 rest) (omega arith) holds_2

  holds_4 : Holds charge reach new.side new.member new.instrument given most (event_entries charge new.member theirs L3) M3 (told_1 + length mine + length own_rest + length theirs) (λ _. false) rest_after
  holds_4 =
      holds_judged charge reach new.side new.member new.instrument given most new.member pending.member L3 M2 (told_1 + length mine + length own_rest) waiting_2 (λ _. false) rest_after
      (eq-eqb pending.member pending.member refl) refl (λ k ne. sym (ne_eqb pending.member k ne)) holds_3

  abbrev all_events : List Event
  all_events = trading ∷ (mine ++ (own_rest ++ theirs))

  holds_all : Holds charge reach new.side new.member new.instrument given most (event_entries charge new.member all_events L0) M3 (length s.events + length all_events) (λ _. false) rest_after
  holds_all =
      subst (λ K. Holds charge reach new.side new.member new.instrument given most K M3 (length s.events + length all_events) (λ _. false) rest_after) (sym (entries_append charge new.member mine (own_rest ++ theirs) L1 ∙ entries_append charge new.member own_rest theirs L2))
      (subst (λ n. Holds charge reach new.side new.member new.instrument given most (event_entries charge new.member theirs L3) M3 n (λ _. false) rest_after) (let a = length-append mine (own_rest ++ theirs) in let b = length-append own_rest theirs in omega arith) holds_4)

  -- The trade lowers the need of a party that it finds in reduction mode.
  placing_lowers : LowersNeed charge L0 (trade_of number new pending lots) new.member
  placing_lowers r =
      let before = owed_is charge L0 (λ _. false) M0.members M0.sheet _ new.member in_table h.holds.agree in
      let totals : (trade_entry (trade_of number new pending lots) L0).totals new.member ≡ raised (M0.sheet.held new.member) new.side new.instrument lots = ap (λ (t : ℕ → Totals). t new.member) (entered_totals L0 M0.sheet new pending number lots h.holds.agree.totals) ∙ placing_totals M0.sheet.held new.side new.member pending.member new.instrument lots different in
      let after : owed charge (trade_entry (trade_of number new pending lots) L0) new.member ≡ need_on charge M0.sheet.factor (raised (M0.sheet.held new.member) new.side new.instrument lots) new.member = (λ i. charge (h.holds.agree.factor i) (totals i)) ∙ sym (cond-true (ltb new.member 32) _ 0 (lt-ltb new.member 32 in_table)) in
      let less = lowered (sym (h.holds.agree.mode new.member) ∙ r) in
      omega arith

  other_lowers : LowersNeed charge L0 (trade_of number new pending lots) pending.member
  other_lowers r = not_both_modes (L0.mode pending.member) (h.holds.agree.mode pending.member ∙ standing.active) r

  risk_all : EventsReduceRisk charge new.member L0 all_events
  risk_all = (
    by_sides (LowersNeed charge L0 (trade_of number new pending lots)) new.side new.member pending.member placing_lowers other_lowers,
    risk_append charge new.member mine (own_rest ++ theirs) L1 (risk_cancelled charge new.member TurnedToReduction (picked_orders (λ o. has_fallen charge M1 new.member && is_of new.member o) M1.rows) L1)
        (risk_append charge new.member own_rest theirs L2 (own fallen) (risk_cancelled charge new.member TurnedToReduction (picked_orders (λ o. has_fallen charge M2 pending.member && is_of pending.member o) M2.rows) L3)),
  )
    where
      own : (b : Bool) → EventsReduceRisk charge new.member L2 (cond b (rest_cancelled number new TurnedToReduction rest) [])
      own true = risk_rest_cancelled charge new.member number new TurnedToReduction rest L2
      own false = tt

  -- A member that did not fall is still normal.
  still_normal : (M0.members new.member).mode ≡ Normal → fallen ≡ false → (M3.members new.member).mode ≡ Normal
  still_normal normal stood =
      put_cases M2.members pending.member (judged_member (need charge M2 pending.member) (M2.members pending.member)) new.member (λ (r : Member). r.mode ≡ Normal)
      (λ e. absurd (Rattle.std.proofs.lemmas.Bool.eqb-false new.member pending.member different (sym e)))
      (λ _. ap (λ (r : Member). r.mode) (put_here M1.members new.member (judged_member (need charge M1 new.member) (M1.members new.member))) ∙ stays_normal (M0.members new.member).mode (judged (need charge M1 new.member) (M0.members new.member).deposit (M0.members new.member).mode) normal stood)

  mid_fill : Mid charge reach L given most new instruments fuel (fill charge reach number new s pending others)
  mid_fill =
      record {
        holds = more_events charge reach L given most new instruments s all_events M3 rest_after holds_all;
        small = (let a = limits_judged (need charge M1 new.member) M1.members new.member new.member in let b = limits_judged (need charge M2 pending.member) M2.members pending.member new.member in omega (arith, h.small, cut_less fallen rest));
        fits = λ e. cut_fits fallen s.rest lots fuel (omega (arith, (h.fits meets).0, standing.some)) (h.fits meets).1 e;
        clear = λ e l. cut_over fallen rest e l;
        daily = λ e l. still_normal (h.daily e (h.fits meets).0) (cut_standing fallen rest l);
        risk = risk_append charge new.member s.events all_events L h.risk risk_all;
        same_instruments = h.same_instruments;
        phase = h.phase;
        numbers = h.numbers;
      }

-- ---- turns

module _ (charge : Charge) (reach : ℕ) (rise : RiseBounded charge reach) (L : Ledger) (given most : ℕ) (new : NewOrder) (instruments : ℕ → Instrument)
    (in_table : new.member < 32) (in_range : new.instrument < 16) (defined : (instruments new.instrument).defined ≡ true) (number : ℕ) where
  mid_first : (fuel : ℕ) (s : Meeting) (row : List Order) → s.market.rows (opposite new.side) new.instrument ≡ row → s.meets ≡ true → Mid charge reach L given most new instruments (suc fuel) s → Mid charge reach L given most new instruments fuel (meeting_first charge reach number new s row)
  mid_first fuel s [] here meets h = mid_ends charge reach L given most new instruments fuel s (subst (AllByRecursion (λ o. apart new.side new.rate o.rate ≡ true)) (sym here) tt) h
  mid_first fuel s (pending ∷ others) here meets h =
      cond_both (apart new.side new.rate pending.rate) _ _ (Mid charge reach L given most new instruments fuel)
      (λ e. mid_ends charge reach L given most new instruments fuel s (subst (AllByRecursion (λ o. apart new.side new.rate o.rate ≡ true)) (sym here) (apart_from_all new.side new.rate pending others (subst (Sequenced (opposite new.side)) here (h.holds.orderly.sequenced (opposite new.side) new.instrument)) e)) h)
      (λ _. cond_both (eqb new.member pending.member) _ _ (Mid charge reach L given most new instruments fuel)
      (λ _. mid_ends_cancelled charge reach L given most new instruments fuel (suc fuel) number OwnOrder s h)
      (λ different. cond_both (is_hindered charge reach s.market new (min s.rest pending.lots)) _ _ (Mid charge reach L given most new instruments fuel)
      (λ _. mid_ends_cancelled charge reach L given most new instruments fuel (suc fuel) number NeedNotLowered s h)
      (λ free. mid_fill charge reach rise L given most new instruments in_table in_range defined number fuel s pending others here different free meets h)))

  mid_over : (fuel : ℕ) (s : Meeting) → s.meets ≡ false → Mid charge reach L given most new instruments (suc fuel) s → Mid charge reach L given most new instruments fuel s
  mid_over fuel s e h = record { holds = h.holds; small = h.small; fits = λ d. absurd (both_ways s.meets e d); clear = h.clear; daily = h.daily; risk = h.risk; same_instruments = h.same_instruments; phase = h.phase; numbers = h.numbers }

  pub mid_turns : (n : ℕ) (s : Meeting) → Mid charge reach L given most new instruments n s → Mid charge reach L given most new instruments 0 (repeated n (turn charge reach number new) s)
  unfolding repeated
  mid_turns zero s h = h
  mid_turns (suc n) s h =
      mid_turns n (turn charge reach number new s)
      (cond_both s.meets _ s (Mid charge reach L given most new instruments n) (λ e. mid_first n s (s.market.rows (opposite new.side) new.instrument) refl e h) (λ e. mid_over n s e h))

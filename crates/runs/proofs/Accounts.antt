-- The ledger agrees with the venue. While members wait to be judged, the ledger already has the mode that judging will give them.
use Rattle.std.proofs.Common.{◌≡◌, ℕ, ◌+◌, ◌-◌, ◌<◌, ◌≤◌, Bool, true, false, cond, ◌||◌, eqb, ltb, List, [], ◌∷◌, ◌++◌, map, sym, refl, ap, ◌∙◌, subst, arith}
use Rattle.std.proofs.lemmas.Bool.{cond_both, cond-true, cond-false, eq-eqb, ne_eqb, lt-ltb, or_left, or_right}
use Rattle.terms.specs.declared.Order.{Order}
use Rattle.terms.specs.declared.Side.{Side}
use Rattle.terms.specs.declared.Side.TheVariants.{Bid, Offer}
use Rattle.terms.specs.Tables.{put}
use Rattle.terms.proofs.Tables.{put_cases}
use Rattle.margin.specs.Sheets.{Sheet, Charge, need_of}
use Rattle.market.specs.declared.events.Event.{Event}
use Rattle.market.specs.declared.events.Event.TheVariants.{Traded}
use Rattle.market.specs.declared.events.Reason.{Reason}
use Rattle.market.specs.declared.events.Trade.{Trade}
use Rattle.market.specs.declared.members.Mode.{Mode}
use Rattle.market.specs.declared.orders.NewOrder.{NewOrder}
use Rattle.market.specs.Markets.{sum_over, lots_of}
use Rattle.market.specs.Limits.{highest_limit}
use Rattle.market.specs.Cancels.{cancelled}
use Rattle.market.specs.Modes.{judged, judged_member}
use Rattle.market.specs.Meeting.{by_side, rest_cancelled, order_of, trade_of}
use Rattle.market.specs.TableRows.{Member}
use Rattle.runs.specs.Ledgers.{Ledger, add_lots, trade_entry, cancel_entry, owed, judge_entry, event_entry, event_entries}
use Rattle.runs.proofs.Orders.{Members}
use Rattle.market.proofs.Sums.{eqb_swap}
use Rattle.runs.proofs.Totals.{trade_totals, trade_totals_by_side}

-- A placed order's rest, by member.
abbrev pub rest_of : ℕ → ℕ → ℕ → ℕ
rest_of a rest k = cond (eqb a k) rest 0

pub rest_of_none : (a k : ℕ) → rest_of a 0 k ≡ 0
rest_of_none a k = cond_both {A = ℕ} (eqb a k) 0 0 (λ z. z ≡ 0) (λ _. refl) (λ _. refl)

pub rest_of_part : (a k rest q : ℕ) → q ≤ rest → rest_of a rest k ≡ rest_of a (rest - q) k + rest_of a q k
rest_of_part a k rest q h = go (eqb a k)
  where
    go : (b : Bool) → cond b rest 0 ≡ cond b (rest - q) 0 + cond b q 0
    go true = omega arith
    go false = omega arith

-- The party of a trade that is not the placing one.
pub other_party_is : (side : Side) (a b : ℕ) → eqb a b ≡ false → cond (eqb a (by_side side a b)) (by_side side b a) (by_side side a b) ≡ b
other_party_is Bid a b e = cond-true (eqb a a) b a (eq-eqb a a refl)
other_party_is Offer a b e = cond-false (eqb a b) a b e

-- The ledger enters a trade as the keeper records it.
pub entered_totals : (L : Ledger) (sheet : Sheet) (new : NewOrder) (pending : Order) (number q : ℕ) → L.totals ≡ sheet.held → (trade_entry (trade_of number new pending q) L).totals ≡ trade_totals sheet.held new.side new.member pending.member new.instrument q
entered_totals L sheet new pending number q same =
    let trade = trade_of number new pending q in
    ap (λ t. add_lots (add_lots t trade.buyer Bid new.instrument q) trade.seller Offer new.instrument q) same
    ∙ trade_totals_by_side sheet.held new.side new.member pending.member new.instrument q

module _ (charge : Charge) where
  -- left: the lots of each member that are accepted and neither traded nor cancelled.
  pub record Agree (L : Ledger) (waiting : ℕ → Bool) (members : Members) (sheet : Sheet) (left : ℕ → ℕ) : Type 0 where
    pub deposit : (k : ℕ) → L.deposit k ≡ (members k).deposit
    pub mode : (k : ℕ) → L.mode k ≡ cond (waiting k) (judged (need_of charge sheet k) (members k).deposit (members k).mode) (members k).mode
    pub limit : (k : ℕ) → L.limit k ≡ highest_limit (members k).limits
    pub lots : (k : ℕ) → L.accepted k ≡ L.traded k + left k + L.cancelled k
    pub factor : L.factor ≡ sheet.factor
    pub totals : L.totals ≡ sheet.held

  pub owed_is : (L : Ledger) (waiting : ℕ → Bool) (members : Members) (sheet : Sheet) (left : ℕ → ℕ) (k : ℕ) → k < 32 → Agree L waiting members sheet left → owed charge L k ≡ need_of charge sheet k
  owed_is L waiting members sheet left k l h = (λ i. charge (h.factor i) (h.totals i k)) ∙ sym (cond-true (ltb k 32) (charge sheet.factor (sheet.held k)) 0 (lt-ltb k 32 l))

  pub agree_left : (L : Ledger) (waiting : ℕ → Bool) (members : Members) (sheet : Sheet) (left after : ℕ → ℕ) → ((k : ℕ) → left k ≡ after k) → Agree L waiting members sheet left → Agree L waiting members sheet after
  agree_left L waiting members sheet left after same h = record { deposit = h.deposit; mode = h.mode; limit = h.limit; lots = λ k. omega (arith, h.lots k, same k); factor = h.factor; totals = h.totals }

  -- ---- cancels

  pub agree_cancelled : (placing : ℕ) (reason : Reason) (orders : List Order) (L : Ledger) (waiting : ℕ → Bool) (members : Members) (sheet : Sheet) (left after : ℕ → ℕ) → ((k : ℕ) → left k ≡ after k + lots_of k orders) → Agree L waiting members sheet left → Agree (event_entries charge placing (map (cancelled reason) orders) L) waiting members sheet after
  unfolding sum_over
  agree_cancelled placing reason [] L waiting members sheet left after less h = agree_left L waiting members sheet left after (λ k. omega (arith, less k)) h
  agree_cancelled placing reason (o ∷ os) L waiting members sheet left after less h =
      agree_cancelled placing reason os (cancel_entry (record { number = o.number; member = o.member; lots = o.lots; reason = reason }) L) waiting members sheet (λ k. after k + lots_of k os) after (λ k. refl)
      (record { deposit = h.deposit; mode = h.mode; limit = h.limit; lots = λ k. omega (arith, h.lots k, less k, ap (λ b. cond b o.lots 0) (eqb_swap k o.member)); factor = h.factor; totals = h.totals })

  pub agree_rest_cancelled : (placing number : ℕ) (new : NewOrder) (reason : Reason) (rest : ℕ) (L : Ledger) (waiting : ℕ → Bool) (members : Members) (sheet : Sheet) (left after : ℕ → ℕ) → ((k : ℕ) → left k ≡ after k + rest_of new.member rest k) → Agree L waiting members sheet left → Agree (event_entries charge placing (rest_cancelled number new reason rest) L) waiting members sheet after
  agree_rest_cancelled placing number new reason rest L waiting members sheet left after less h =
      cond_both (ltb 0 rest) (cancelled reason (order_of number new rest) ∷ []) [] (λ es. Agree (event_entries charge placing es L) waiting members sheet after)
      (λ _. record { deposit = h.deposit; mode = h.mode; limit = h.limit; lots = λ k. omega (arith, h.lots k, less k); factor = h.factor; totals = h.totals })
      (λ e. agree_left L waiting members sheet left after (λ k. omega (arith, less k, no_rest k (Rattle.std.proofs.lemmas.Bool.ltb-false 0 rest e))) h)
    where
      no_rest : (k : ℕ) → rest ≤ 0 → rest_of new.member rest k ≡ 0
      no_rest k l = cond_both (eqb new.member k) rest 0 (λ z. z ≡ 0) (λ _. omega arith) (λ _. refl)

  -- ---- judging

  -- The ledger judges a member: it waits to be judged by the venue.
  agree_judge_entry : (L : Ledger) (waiting more : ℕ → Bool) (members : Members) (sheet : Sheet) (left : ℕ → ℕ) (m : ℕ) → m < 32 → waiting m ≡ false → more m ≡ true → ((k : ℕ) → (m ≡ k → ⊥) → more k ≡ waiting k) → Agree L waiting members sheet left → Agree (judge_entry charge m L) more members sheet left
  agree_judge_entry L waiting more members sheet left m l not_yet now-waits others h =
      record {
        deposit = h.deposit;
        mode = λ k. put_cases L.mode m (judged (owed charge L m) (L.deposit m) (L.mode m)) k (λ (z : Mode). z ≡ cond (more k) (judged (need_of charge sheet k) (members k).deposit (members k).mode) (members k).mode) (λ e. subst (λ z. judged (owed charge L m) (L.deposit m) (L.mode m) ≡ cond (more z) (judged (need_of charge sheet z) (members z).deposit (members z).mode) (members z).mode) e own) (λ ne. h.mode k ∙ ap (λ b. cond b (judged (need_of charge sheet k) (members k).deposit (members k).mode) (members k).mode) (sym (others k ne)));
        limit = h.limit;
        lots = h.lots;
        factor = h.factor;
        totals = h.totals;
      }
    where
      old_mode : L.mode m ≡ (members m).mode
      old_mode = h.mode m ∙ cond-false (waiting m) _ (members m).mode not_yet

      own : judged (owed charge L m) (L.deposit m) (L.mode m) ≡ cond (more m) (judged (need_of charge sheet m) (members m).deposit (members m).mode) (members m).mode
      own = (λ i. judged (owed_is L waiting members sheet left m l h i) (h.deposit m i) (old_mode i)) ∙ sym (cond-true (more m) (judged (need_of charge sheet m) (members m).deposit (members m).mode) (members m).mode now-waits)

  -- The venue judges a member: it waits no longer.
  pub agree_judged : (L : Ledger) (waiting fewer : ℕ → Bool) (members : Members) (sheet : Sheet) (left : ℕ → ℕ) (m : ℕ) → waiting m ≡ true → fewer m ≡ false → ((k : ℕ) → (m ≡ k → ⊥) → fewer k ≡ waiting k) → Agree L waiting members sheet left → Agree L fewer (put members m (judged_member (need_of charge sheet m) (members m))) sheet left
  agree_judged L waiting fewer members sheet left m waits no_more others h =
      record {
        deposit = λ k. put_cases members m row k (λ (r : Member). L.deposit k ≡ r.deposit) (λ e. h.deposit k ∙ ap (λ z. (members z).deposit) (sym e)) (λ _. h.deposit k);
        mode = λ k. put_cases members m row k (λ (r : Member). L.mode k ≡ cond (fewer k) (judged (need_of charge sheet k) r.deposit r.mode) r.mode) (λ e. subst (λ z. L.mode z ≡ cond (fewer z) (judged (need_of charge sheet z) row.deposit row.mode) row.mode) e own) (λ ne. h.mode k ∙ ap (λ b. cond b (judged (need_of charge sheet k) (members k).deposit (members k).mode) (members k).mode) (sym (others k ne)));
        limit = λ k. put_cases members m row k (λ (r : Member). L.limit k ≡ highest_limit r.limits) (λ e. h.limit k ∙ ap (λ z. highest_limit (members z).limits) (sym e)) (λ _. h.limit k);
        lots = h.lots;
        factor = h.factor;
        totals = h.totals;
      }
    where
      row : Member
      row = judged_member (need_of charge sheet m) (members m)

      own : L.mode m ≡ cond (fewer m) (judged (need_of charge sheet m) row.deposit row.mode) row.mode
      own = h.mode m ∙ cond-true (waiting m) (judged (need_of charge sheet m) (members m).deposit (members m).mode) (members m).mode waits ∙ sym (cond-false (fewer m) (judged (need_of charge sheet m) row.deposit row.mode) row.mode no_more)

  -- The same of a member whose row was just changed, with nobody else waiting.
  pub agree_judged_at_once : (L : Ledger) (members : Members) (sheet : Sheet) (left : ℕ → ℕ) (m : ℕ) → m < 32 → Agree L (λ _. false) members sheet left → Agree (judge_entry charge m L) (λ _. false) (put members m (judged_member (need_of charge sheet m) (members m))) sheet left
  agree_judged_at_once L members sheet left m l h =
      agree_judged (judge_entry charge m L) (λ k. eqb m k) (λ _. false) members sheet left m (eq-eqb m m refl) refl (λ k ne. sym (ne_eqb m k ne))
      (agree_judge_entry L (λ _. false) (λ k. eqb m k) members sheet left m l refl (eq-eqb m m refl) (λ k ne. ne_eqb m k ne) h)

  -- ---- a trade

  module _ (L : Ledger) (members : Members) (sheet : Sheet) (left after : ℕ → ℕ) (new : NewOrder) (pending : Order) (number q : ℕ) (different : eqb new.member pending.member ≡ false) where
    abbrev trade : Trade
    trade = trade_of number new pending q

    abbrev traded_sheet : Sheet
    traded_sheet = record { factor = sheet.factor; held = trade_totals sheet.held new.side new.member pending.member new.instrument q }

    parties : (side : Side) (a b k : ℕ) → cond (eqb (by_side side a b) k) q 0 + cond (eqb (by_side side b a) k) q 0 ≡ cond (eqb a k) q 0 + cond (eqb b k) q 0
    parties Bid a b k = refl
    parties Offer a b k = omega arith

    -- Before anybody is judged.
    agree_trade_entered : ((k : ℕ) → left k ≡ after k + (rest_of new.member q k + rest_of pending.member q k)) → Agree L (λ _. false) members sheet left → Agree (trade_entry trade L) (λ _. false) members traded_sheet after
    agree_trade_entered less h =
        record {
          deposit = h.deposit;
          mode = h.mode;
          limit = h.limit;
          lots = λ k. omega (arith, h.lots k, less k, parties new.side new.member pending.member k);
          factor = h.factor;
          totals = entered_totals L sheet new pending number q h.totals;
        }

    -- The placing member is judged, then the other.
    pub agree_traded : new.member < 32 → pending.member < 32 → ((k : ℕ) → left k ≡ after k + (rest_of new.member q k + rest_of pending.member q k)) → Agree L (λ _. false) members sheet left → Agree (event_entry charge new.member (Traded trade) L) (λ k. eqb new.member k || eqb pending.member k) members traded_sheet after
    agree_traded la lb less h =
        subst (λ z. Agree (judge_entry charge z (judge_entry charge a (trade_entry trade L))) (λ k. eqb a k || eqb b k) members traded_sheet after) (sym (other_party_is new.side a b different))
        (agree_judge_entry (judge_entry charge a (trade_entry trade L)) (λ k. eqb a k) (λ k. eqb a k || eqb b k) members traded_sheet after b lb different (or_right (eqb a b) (eqb b b) (eq-eqb b b refl)) (λ k ne. or_false (eqb a k) (eqb b k) (ne_eqb b k ne))
        (agree_judge_entry (trade_entry trade L) (λ _. false) (λ k. eqb a k) members traded_sheet after a la refl (eq-eqb a a refl) (λ k ne. ne_eqb a k ne) (agree_trade_entered less h)))
      where
        a : ℕ
        a = new.member

        b : ℕ
        b = pending.member

        or_false : (x y : Bool) → y ≡ false → (x || y) ≡ x
        or_false true y e = refl
        or_false false y e = e

  -- ---- events one after another

  pub entries_append : (placing : ℕ) (es fs : List Event) (L : Ledger) → event_entries charge placing (es ++ fs) L ≡ event_entries charge placing fs (event_entries charge placing es L)
  entries_append placing [] fs L = refl
  entries_append placing (e ∷ es) fs L = entries_append placing es fs (event_entry charge placing e L)

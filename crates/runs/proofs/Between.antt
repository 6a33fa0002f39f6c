-- What holds between calls; and that cancels, deposits and changes of phase keep it.
use Rattle.std.proofs.Common.{◌≡◌, ℕ, suc, ◌+◌, ◌*◌, ◌<◌, ◌≤◌, Bool, true, false, cond, ◌&&◌, eqb, [], length, sym, refl, ap, ◌∙◌, subst, arith}
use mathlib.Core.Path.{fun_ext}
use Rattle.std.proofs.lemmas.Bool.Decides.{nat_tests}
use Rattle.terms.specs.declared.Order.{Order}
use Rattle.terms.specs.declared.Side.{Side}
use Rattle.terms.specs.declared.Side.TheVariants.{Bid}
use Rattle.terms.specs.Tables.{put}
use Rattle.terms.proofs.Tables.{put_cases, put_here}
use Rattle.margin.specs.Sheets.{Charge, no_lots, need_of}
use Rattle.market.specs.declared.calls.Call.{Call}
use Rattle.market.specs.declared.calls.Phase.{Phase}
use Rattle.market.specs.declared.calls.Phase.TheVariants.{SetUp, Open, Closed}
use Rattle.market.specs.declared.events.Reason.{Reason}
use Rattle.market.specs.declared.members.Mode.{Mode}
use Rattle.market.specs.declared.members.Mode.TheVariants.{Normal}
use Rattle.market.specs.Markets.{Market, Told, with_phase}
use Rattle.market.specs.Limits.{highest_limit}
use Rattle.market.specs.Cancels.{cancelling, picked_orders}
use Rattle.market.specs.Modes.{judged, judged_member, with_deposit, need}
use Rattle.market.specs.Calls.{deposit_changed}
use Rattle.market.specs.TableRows.{Member}
use Rattle.runs.specs.Ledgers.{Ledger, deposit_entry, calling_member, judge_entry, event_entries, call_entry}
use Rattle.runs.specs.Promises.{EventsReduceRisk}
use Rattle.runs.proofs.Orders.{orderly_changed, orderly_later, stands_by}
use Rattle.runs.proofs.Counts.{counted_later}
use Rattle.runs.proofs.Margins.{InBand, Bounded, judged_in_band}
use Rattle.runs.proofs.Reaches.{coming}
use Rattle.runs.proofs.Accounts.{Agree, rest_of_none, agree_left, agree_judged_at_once}
use Rattle.runs.proofs.Risk.{risk_cancelled}
use Rattle.runs.proofs.Holds.{Holds, left, holds_cancelled}

-- In set-up nobody holds lots and nothing is pending.
pub record Quiet (M : Market) : Type 0 where
  pub nobody_holds : (k : ℕ) → M.sheet.held k ≡ no_lots
  pub nothing_pending : (side : Side) (i : ℕ) → M.rows side i ≡ []

pub not_set_up : {A : Type 0} (phase : Phase) → phase ≡ Open → phase ≡ SetUp → A
not_set_up phase e f = absurd (let z : ◌≡◌ {A = ℕ} 0 1 = cc in omega arith)

pub closed_not_set_up : {A : Type 0} → Closed ≡ SetUp → A
closed_not_set_up e = absurd (let z : ◌≡◌ {A = ℕ} 0 1 = cc in omega arith)

pub coming_none : (side : Side) (a i k : ℕ) (s : Side) (j : ℕ) → coming side a i 0 k s j ≡ 0
coming_none side a i k s j = go (Rattle.terms.specs.Sides.same_side side s && (eqb a k && eqb i j))
  where
    go : (b : Bool) → ◌≡◌ {A = ℕ} (cond b 0 0) 0
    go true = refl
    go false = refl

module _ (charge : Charge) (reach : ℕ) where
  pub record Between (L : Ledger) (M : Market) : Type 0 where
    pub holds : Holds charge reach Bid 0 0 M.given 256 L M 0 (λ _. false) 0
    pub quiet : M.phase ≡ SetUp → Quiet M

  -- Of an accepted call: the ledger with it, its events, and the venue after it.
  pub record Kept (L : Ledger) (call : Call) (told : Told) : Type 0 where
    pub between : Between (event_entries charge (calling_member call) told.events (call_entry charge call L)) told.market
    pub risk : EventsReduceRisk charge (calling_member call) (call_entry charge call L) told.events
    pub few : length told.events ≤ 257

  -- With no rest it does not matter whose order it was or how many events were told.
  pub holds_idle : (side : Side) (a i : ℕ) (s : Side) (b j : ℕ) (given most told : ℕ) (L : Ledger) (M : Market) → Holds charge reach side a i given most L M told (λ _. false) 0 → Holds charge reach s b j given 256 L M 0 (λ _. false) 0
  holds_idle side a i s b j given most told L M h =
      record {
        orderly = h.orderly;
        counted = record { few = omega (arith, h.counted.within); within = h.counted.within; once = h.counted.once; none_above = h.counted.none_above };
        margined = h.margined;
        reached = λ k t l. omega (arith, h.reached k t l, coming_none s b j k t l);
        balanced = h.balanced;
        agree = agree_left charge L (λ _. false) M.members M.sheet (left M.rows a 0) (left M.rows b 0) (λ k. omega (arith, rest_of_none a k, rest_of_none b k)) h.agree;
        known = h.known;
      }

  -- A number more may be given out.
  pub holds_later : (side : Side) (a i given most : ℕ) (L : Ledger) (M : Market) (told : ℕ) (rest : ℕ) → Holds charge reach side a i given most L M told (λ _. false) rest → Holds charge reach side a i (suc given) most L M told (λ _. false) rest
  holds_later side a i given most L M told rest h =
      record {
        orderly = orderly_later given (suc given) M.members M.rows (omega arith) h.orderly;
        counted = counted_later given told most rest M.rows h.counted;
        margined = h.margined;
        reached = h.reached;
        balanced = h.balanced;
        agree = h.agree;
        known = h.known;
      }

  pub holds_with_phase : (phase : Phase) (L : Ledger) (M : Market) → Holds charge reach Bid 0 0 M.given 256 L M 0 (λ _. false) 0 → Holds charge reach Bid 0 0 M.given 256 L (with_phase M phase) 0 (λ _. false) 0
  holds_with_phase phase L M h = record { orderly = h.orderly; counted = h.counted; margined = h.margined; reached = h.reached; balanced = h.balanced; agree = h.agree; known = h.known }

  -- ---- cancels

  pub between_cancelled : (placing : ℕ) (picked : Order → Bool) (reason : Reason) (L : Ledger) (M : Market) → (M.phase ≡ SetUp → ⊥) → Holds charge reach Bid 0 0 M.given 256 L M 0 (λ _. false) 0 → Between (event_entries charge placing (cancelling picked reason M).events L) (cancelling picked reason M).market
  between_cancelled placing picked reason L M past h =
      record {
        holds = holds_idle Bid 0 0 Bid 0 0 M.given 256 (0 + length (cancelling picked reason M).events) (event_entries charge placing (cancelling picked reason M).events L) (cancelling picked reason M).market (holds_cancelled charge reach Bid 0 0 M.given 256 placing picked reason L M 0 (λ _. false) 0 h);
        quiet = λ e. absurd (past e);
      }

  cancelled_few : (placing : ℕ) (picked : Order → Bool) (reason : Reason) (L : Ledger) (M : Market) → Holds charge reach Bid 0 0 M.given 256 L M 0 (λ _. false) 0 → length (cancelling picked reason M).events ≤ 257
  cancelled_few placing picked reason L M h = omega (arith, (holds_cancelled charge reach Bid 0 0 M.given 256 placing picked reason L M 0 (λ _. false) 0 h).counted.few)

  -- A call that only cancels.
  pub kept_cancelled : (call : Call) (picked : Order → Bool) (reason : Reason) (L : Ledger) (M : Market) → ((K : Ledger) → call_entry charge call K ≡ K) → (M.phase ≡ SetUp → ⊥) → Holds charge reach Bid 0 0 M.given 256 L M 0 (λ _. false) 0 → Kept L call (cancelling picked reason M)
  kept_cancelled call picked reason L M same past h =
      record {
        between = subst (λ K. Between (event_entries charge (calling_member call) (cancelling picked reason M).events K) (cancelling picked reason M).market) (sym (same L)) (between_cancelled (calling_member call) picked reason L M past h);
        risk = risk_cancelled charge (calling_member call) reason (picked_orders picked M.rows) (call_entry charge call L);
        few = cancelled_few (calling_member call) picked reason L M h;
      }

-- ---- deposits

judged_stays : (need deposit : ℕ) (mode : Mode) → mode ≡ Normal → 20 * need < 19 * deposit → judged need deposit mode ≡ Normal
judged_stays need deposit mode e h = grind (arith, nat_tests)

put_twice : {A : Type 0} (table : ℕ → A) (m : ℕ) (x y : A) → put (put table m x) m y ≡ put table m y
put_twice {A} table m x y = fun_ext (λ k. go k (eqb m k))
  where
    go : (k : ℕ) (b : Bool) → cond b y (cond b x (table k)) ≡ cond b y (table k)
    go k true = refl
    go k false = refl

module _ (charge : Charge) (reach : ℕ) (L : Ledger) (M : Market) (m deposit : ℕ) (in_table : m < 32)
    (enough : (M.members m).mode ≡ Normal → 20 * need charge M m < 19 * deposit)
    (bounded : Bounded (need charge M m) (with_deposit (M.members m) deposit) M.sheet.factor)
    (h : Between charge reach L M) where
  abbrev row : Member
  row = with_deposit (M.members m) deposit

  abbrev judged_row : Member
  judged_row = judged_member (need charge M m) row

  deposit_agree : Agree charge (deposit_entry m deposit L) (λ _. false) (put M.members m row) M.sheet (left M.rows 0 0)
  deposit_agree =
      let g = h.holds.agree in
      record {
        deposit = λ k. go k (eqb m k);
        mode = λ k. put_cases M.members m row k (λ (r : Member). L.mode k ≡ r.mode) (λ e. g.mode k ∙ ap (λ z. (M.members z).mode) (sym e)) (λ _. g.mode k);
        limit = λ k. put_cases M.members m row k (λ (r : Member). L.limit k ≡ highest_limit r.limits) (λ e. g.limit k ∙ ap (λ z. highest_limit (M.members z).limits) (sym e)) (λ _. g.limit k);
        lots = g.lots;
        factor = g.factor;
        totals = g.totals;
      }
    where
      go : (k : ℕ) (b : Bool) → cond b deposit (L.deposit k) ≡ (cond b row (M.members k)).deposit
      go k true = refl
      go k false = h.holds.agree.deposit k

  same_members : put (put M.members m row) m (judged_member (need charge M m) (put M.members m row m)) ≡ put M.members m judged_row
  same_members = ap (λ r. put (put M.members m row) m (judged_member (need charge M m) r)) (put_here M.members m row) ∙ put_twice M.members m row judged_row

  pub between_deposit : Between charge reach (judge_entry charge m (deposit_entry m deposit L)) (deposit_changed charge reach M m deposit)
  between_deposit =
      record {
        holds =
            record {
              orderly = orderly_changed M.given M.given M.members (put M.members m judged_row) M.rows (λ o stands. stands_by M.given M.members m judged_row o (λ e. let normal : (M.members m).mode ≡ Normal = ap (λ z. (M.members z).mode) e ∙ stands.active in judged_stays (need charge M m) deposit (M.members m).mode normal (enough normal)) (omega arith) stands) h.holds.orderly;
              counted = h.holds.counted;
              margined =
                  record {
                    in_band = λ k w. put_cases M.members m judged_row k (λ (r : Member). InBand r.mode (need_of charge M.sheet k) r.deposit) (λ e. subst (λ z. InBand judged_row.mode (need_of charge M.sheet z) deposit) e (judged_in_band (need charge M m) deposit (M.members m).mode)) (λ _. h.holds.margined.in_band k w);
                    bounded = λ k. put_cases M.members m judged_row k (λ (r : Member). Bounded (need_of charge M.sheet k) r M.sheet.factor) (λ e. subst (λ z. Bounded (need_of charge M.sheet z) row M.sheet.factor) e bounded) (λ _. h.holds.margined.bounded k);
                  };
              reached = h.holds.reached;
              balanced = h.holds.balanced;
              agree = subst (λ t. Agree charge (judge_entry charge m (deposit_entry m deposit L)) (λ _. false) t M.sheet (left M.rows 0 0)) same_members (agree_judged_at_once charge (deposit_entry m deposit L) (put M.members m row) M.sheet (left M.rows 0 0) m in_table deposit_agree);
              known = h.holds.known;
            };
        quiet = λ e. record { nobody_holds = (h.quiet e).nobody_holds; nothing_pending = (h.quiet e).nothing_pending };
      }

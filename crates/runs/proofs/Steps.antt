-- Every call keeps what holds between calls.
use Rattle.std.proofs.Common.{◌≡◌, ℕ, ◌+◌, ◌-◌, ◌*◌, ◌<◌, ◌≤◌, Bool, true, false, cond, not, ◌&&◌, eqb, ltb, leb, List, [], ◌∷◌, length, is_some, is_ok, Ok, Err, Result, sym, refl, ap, ◌∙◌, subst, arith}
use Rattle.std.specs.List.{AllByRecursion}
use Rattle.std.proofs.lemmas.Bool.{or_parts, not-false, leb-false, ltb-false, eqb-false, false≢true}
use Rattle.terms.specs.declared.Term.{Term}
use Rattle.terms.specs.declared.Term.TheVariants.{Day, Immediate}
use Rattle.margin.specs.Sheets.{Charge}
use Rattle.margin.specs.Laws.{NoLotsNoCharge, RiseBounded}
use Rattle.market.specs.declared.calls.Call.{Call}
use Rattle.market.specs.declared.calls.Call.TheVariants.{Admit, Define, Open, Deposit, Withdraw, Place, Cancel, CancelAll, Close, AskStanding, AskQuotes, AskListing}
use Rattle.market.specs.declared.calls.Phase.{Phase}
use Rattle.market.specs.declared.calls.Phase.TheVariants.{SetUp, Open as OpenPhase, Closed}
use Rattle.market.specs.declared.events.Reason.TheVariants.{Asked, Closing}
use Rattle.market.specs.declared.instruments.TenorGroup.{TenorGroup}
use Rattle.market.specs.declared.instruments.TenorGroup.TheVariants.{UpToOneYear, UpToFiveYears, OverFiveYears}
use Rattle.market.specs.declared.members.Limits.{Limits}
use Rattle.market.specs.declared.members.Mode.{Mode}
use Rattle.market.specs.declared.members.Mode.TheVariants.{Reduction, Normal}
use Rattle.market.specs.declared.orders.NewOrder.{NewOrder}
use Rattle.market.specs.declared.refusals.Refusal.{Refusal}
use Rattle.market.specs.Numbers.{benchmark_numbered, group_numbered}
use Rattle.market.specs.Markets.{Market, quietly, with_phase, is_of, pending_orders}
use Rattle.market.specs.Limits.{limit_for, highest_limit}
use Rattle.market.specs.Modes.{is_reduction, need}
use Rattle.market.specs.Grounds.{Ground, checked, grounds, place_grounds, is_set_up, is_open, is_day, is_order, no_member}
use Rattle.market.specs.Calls.{Outcome, unless_refused, effect, accepted, step, deposit_changed}
use Rattle.runs.specs.Ledgers.{Ledger, calling_member, judge_entry, deposit_entry, call_entry, deed_entry}
use Rattle.runs.specs.Promises.{EventsReduceRisk}
use Rattle.market.proofs.Weights.{pending_length}
use Rattle.runs.proofs.Margins.{in_band_normal}
use Rattle.runs.proofs.Between.{Between, Kept, holds_with_phase, kept_cancelled, between_deposit, not_set_up, closed_not_set_up}
use Rattle.runs.proofs.SetUps.{between_admitted, between_defined}
use Rattle.runs.proofs.Placings.{Acceptable, most_of, kept_placed}

-- ---- what grounds that are not met leave

pub unmet : (gs : List Ground) → is_ok (checked gs) ≡ true → AllByRecursion (λ g. g.is_met ≡ false) gs
unmet [] h = tt
unmet (g ∷ gs) h = go g.is_met h (unmet gs)
  where
    go : (b : Bool) → is_ok (cond b (Err g.refusal) (checked gs)) ≡ true → (is_ok (checked gs) ≡ true → AllByRecursion (λ g. g.is_met ≡ false) gs) → (b ≡ false) × AllByRecursion (λ g. g.is_met ≡ false) gs
    go true e others = absurd (false≢true e)
    go false e others = (refl, others e)

in_set_up : (phase : Phase) → not (is_set_up phase) ≡ false → phase ≡ SetUp
in_set_up SetUp e = refl
in_set_up OpenPhase e = absurd (false≢true (sym e))
in_set_up Closed e = absurd (false≢true (sym e))

in_open : (phase : Phase) → not (is_open phase) ≡ false → phase ≡ OpenPhase
in_open SetUp e = absurd (false≢true (sym e))
in_open OpenPhase e = refl
in_open Closed e = absurd (false≢true (sym e))

limit_at_most_highest : (group : TenorGroup) (limits : Limits) → limit_for group limits ≤ highest_limit limits
limit_at_most_highest UpToOneYear limits = omega arith
limit_at_most_highest UpToFiveYears limits = omega arith
limit_at_most_highest OverFiveYears limits = omega arith

day_is_normal : (mode : Mode) (term : Term) → (is_reduction mode && is_day term) ≡ false → term ≡ Day → mode ≡ Normal
day_is_normal Normal term e d = refl
day_is_normal Reduction Day e d = absurd (false≢true (sym e))
day_is_normal Reduction Immediate e d = absurd (let z : ◌≡◌ {A = ℕ} 0 1 = cc in omega arith)

free_place : (term : Term) (count : ℕ) → (is_day term && leb 256 count) ≡ false → count ≤ 256 → count + 1 ≤ most_of term
free_place Day count e l = omega (arith, leb-false 256 count e)
free_place Immediate count e l = omega arith

member_there : (M : Market) (m : ℕ) → no_member M m ≡ false → m < 32
member_there M m e = leb-false 32 m (or_parts (leb 32 m) _ e).0

module _ (charge : Charge) (reach : ℕ) where
  pub acceptable : (places : ℕ) (M : Market) (new : NewOrder) → length (pending_orders M.rows) ≤ 256 → is_ok (checked (place_grounds charge reach places M new)) ≡ true → Acceptable reach M new
  acceptable places M new few e =
      let u = unmet (place_grounds charge reach places M new) e in
      let instrument = or_parts (leb 16 new.instrument) (not (M.instruments new.instrument).defined) u.1.1.1.0 in
      let lots = or_parts (eqb new.lots 0) _ u.1.1.1.1.1.0 in
      let limits = or_parts (ltb 1000 new.lots) _ lots.1 in
      let group = (M.instruments new.instrument).group in
      record {
        in_table = member_there M new.member u.1.1.0;
        in_range = leb-false 16 new.instrument instrument.0;
        is_defined = not-false (M.instruments new.instrument).defined instrument.1;
        some = (let z = eqb-false new.lots 0 lots.0 in omega arith);
        small = omega (arith, ltb-false (limit_for group (M.members new.member).limits) new.lots limits.1, limit_at_most_highest group (M.members new.member).limits);
        room = ltb-false reach _ u.1.1.1.1.1.1.1.1.1.0;
        daily = day_is_normal (M.members new.member).mode new.term u.1.1.1.1.1.1.1.1.1.1.0;
        free_place = free_place new.term (length (pending_orders M.rows)) u.1.1.1.1.1.1.1.1.1.1.1.1.0 few;
        is_open = in_open M.phase u.1.0;
      }

module _ (charge : Charge) (reach : ℕ) (none : NoLotsNoCharge charge) (rise : RiseBounded charge reach) where
  quietly_kept : (L : Ledger) (call : Call) (M : Market) → Between charge reach (call_entry charge call L) M → Kept charge reach L call (quietly M)
  quietly_kept L call M h = record { between = h; risk = tt; few = omega arith }

  -- The ledger's own deposit is the member's.
  deposited : (L : Ledger) (M : Market) (m deposit : ℕ) (entered : ℕ → ℕ) → Between charge reach L M → m < 32 → entered (M.members m).deposit ≡ deposit → ((M.members m).mode ≡ Normal → 20 * need charge M m < 19 * deposit) → 20 * need charge M m ≤ 19 * deposit + 40 * (Rattle.runs.specs.Promises.highest_below 16 M.sheet.factor * highest_limit (M.members m).limits) → Between charge reach (judge_entry charge m (deposit_entry m (entered (L.deposit m)) L)) (deposit_changed charge reach M m deposit)
  deposited L M m deposit entered h l same enough bounded =
      subst (λ d. Between charge reach (judge_entry charge m (deposit_entry m d L)) (deposit_changed charge reach M m deposit)) (sym (ap entered (h.holds.agree.deposit m) ∙ same))
      (between_deposit charge reach L M m deposit l enough bounded h)

  effect_kept : (places : ℕ) (L : Ledger) (M : Market) (call : Call) → is_ok (checked (grounds charge reach places M call)) ≡ true → Between charge reach L M → Kept charge reach L call (effect charge reach M call)
  effect_kept places L M (Admit member benchmarks limits) e h =
      let u = unmet (grounds charge reach places M (Admit member benchmarks limits)) e in
      quietly_kept L (Admit member benchmarks limits) _ (between_admitted charge reach none L M member benchmarks limits (h.quiet (in_set_up M.phase u.0)) h)
  effect_kept places L M (Define instrument benchmark group factor) e h =
      let u = unmet (grounds charge reach places M (Define instrument benchmark group factor)) e in
      let values = or_parts (not (is_some (benchmark_numbered benchmark))) _ u.1.1.1.0 in
      let others = or_parts (not (is_some (group_numbered group))) _ values.1 in
      let range = or_parts (eqb factor 0) (ltb 100000 factor) others.1 in
      quietly_kept L (Define instrument benchmark group factor) _ (between_defined charge reach none L M instrument benchmark group factor (leb-false 16 instrument u.1.0) u.1.1.0 (let z = eqb-false factor 0 range.0 in omega arith) (ltb-false 100000 factor range.1) (h.quiet (in_set_up M.phase u.0)) h)
  effect_kept places L M Open e h = quietly_kept L Open _ (record { holds = holds_with_phase charge reach OpenPhase L M h.holds; quiet = λ f. not_set_up OpenPhase refl f })
  effect_kept places L M (Deposit member amount) e h =
      let u = unmet (grounds charge reach places M (Deposit member amount)) e in
      quietly_kept L (Deposit member amount) _ (deposited L M member ((M.members member).deposit + amount) (λ d. d + amount) h (member_there M member u.1.0) refl (λ normal. omega (arith, in_band_normal (M.members member).mode (need charge M member) (M.members member).deposit normal (h.holds.margined.in_band member refl))) (omega (arith, h.holds.margined.bounded member)))
  effect_kept places L M (Withdraw member amount) e h =
      let u = unmet (grounds charge reach places M (Withdraw member amount)) e in
      let left = leb-false (19 * ((M.members member).deposit - amount)) (20 * need charge M member) (or_parts (is_reduction (M.members member).mode) _ u.1.1.1.0).1 in
      quietly_kept L (Withdraw member amount) _ (deposited L M member ((M.members member).deposit - amount) (λ d. d - amount) h (member_there M member u.1.0) refl (λ _. left) (omega arith))
  effect_kept places L M (Place new) e h = kept_placed charge reach rise L M new (acceptable charge reach places M new (omega (arith, h.holds.counted.within, Rattle.market.proofs.Weights.pending_length M.rows)) e) h
  effect_kept places L M (Cancel member number) e h =
      let u = unmet (grounds charge reach places M (Cancel member number)) e in
      kept_cancelled charge reach (Cancel member number) (is_order member number) Asked L M (λ _. refl) (λ f. not_set_up M.phase (in_open M.phase u.1.0) f) h.holds
  effect_kept places L M (CancelAll member) e h =
      let u = unmet (grounds charge reach places M (CancelAll member)) e in
      kept_cancelled charge reach (CancelAll member) (is_of member) Asked L M (λ _. refl) (λ f. not_set_up M.phase (in_open M.phase u.1.0) f) h.holds
  effect_kept places L M Close e h = kept_cancelled charge reach Close (λ _. true) Closing L (with_phase M Closed) (λ _. refl) closed_not_set_up (holds_with_phase charge reach Closed L M h.holds)
  effect_kept places L M (AskStanding member) e h = quietly_kept L (AskStanding member) M h
  effect_kept places L M (AskQuotes instrument) e h = quietly_kept L (AskQuotes instrument) M h
  effect_kept places L M (AskListing instrument) e h = quietly_kept L (AskListing instrument) M h

  -- Of any call, refused or not.
  pub record Stepped (L : Ledger) (call : Call) (outcome : Outcome) : Type 0 where
    pub between : Between charge reach (deed_entry charge (record { call = call; answer = outcome.answer; events = outcome.events }) L) outcome.market
    pub risk : EventsReduceRisk charge (calling_member call) (call_entry charge call L) outcome.events
    pub few : length outcome.events ≤ 257

  pub step_kept : (places : ℕ) (L : Ledger) (M : Market) (call : Call) → Between charge reach L M → Stepped L call (step charge reach places M call)
  unfolding step
  step_kept places L M call h = go (checked (grounds charge reach places M call)) refl
    where
      go : (check : Result (Unit {0}) Refusal) → checked (grounds charge reach places M call) ≡ check → Stepped L call (unless_refused M check (accepted charge reach M call))
      go (Ok _) e = let kept = effect_kept places L M call (ap is_ok e) h in record { between = kept.between; risk = kept.risk; few = kept.few }
      go (Err refusal) e = record { between = h; risk = tt; few = omega arith }

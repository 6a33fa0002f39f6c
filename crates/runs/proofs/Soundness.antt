-- Every run is sound.
use Rattle.std.proofs.Common.{◌≡◌, ℕ, ◌+◌, ◌*◌, ◌<◌, ◌≤◌, Bool, true, false, cond, eqb, List, [], ◌∷◌, ◌++◌, map, length, sym, refl, ap, ◌∙◌, subst, arith}
use Rattle.std.specs.List.{AllByRecursion}
use Rattle.std.proofs.lemmas.Bool.{eqb-true}
use Rattle.terms.specs.declared.Order.{Order}
use Rattle.terms.specs.declared.Side.{Side}
use Rattle.terms.specs.declared.Side.TheVariants.{Bid, Offer}
use Rattle.terms.specs.Tables.{sum_below}
use Rattle.terms.proofs.Tables.{sum_zero}
use Rattle.margin.specs.Sheets.{Totals, Charge, need_of}
use Rattle.margin.specs.Laws.{NoLotsNoCharge, RiseBounded}
use Rattle.market.specs.declared.members.Mode.TheVariants.{Reduction}
use Rattle.market.specs.declared.orders.Listed.{Listed}
use Rattle.market.specs.Markets.{Market, fresh_market, listed, listing, sum_over, is_of, lots_of, pending_in, pending_lots}
use Rattle.runs.specs.Deeds.{Made, Deed, deed_of, market_after, deeds, market_at_end}
use Rattle.runs.specs.Ledgers.{Ledger, blank_ledger, owed, deed_entry, ledger_from, ledger}
use Rattle.runs.specs.Promises.{lots_in_listing, pending, highest_below, DeedsReduceRisk, Sound, SoundOverEveryKeeper}
use Rattle.market.proofs.Sums.{sum_same}
use Rattle.market.proofs.Weights.{pending_length}
use Rattle.runs.proofs.Sequence.{in_sequence}
use Rattle.runs.proofs.Orders.{Members, Stands}
use Rattle.runs.proofs.Counts.{no_number_twice}
use Rattle.runs.proofs.Margins.{in_band_normal, in_band_reduction, not_both_modes}
use Rattle.runs.proofs.Accounts.{rest_of_none, owed_is}
use Rattle.runs.proofs.Totals.{need_none}
use Rattle.runs.proofs.Holds.{left}
use Rattle.runs.proofs.Between.{Between}
use Rattle.runs.proofs.Steps.{step_kept}

-- ---- listings

listing_append : (m : ℕ) (xs ys : List Listed) → lots_in_listing m (xs ++ ys) ≡ lots_in_listing m xs + lots_in_listing m ys
unfolding lots_in_listing
listing_append m [] ys = omega arith
listing_append m (x ∷ xs) ys = omega (arith, listing_append m xs ys)

listing_row : (m : ℕ) (side : Side) (orders : List Order) → lots_in_listing m (map (listed side) orders) ≡ lots_of m orders
unfolding lots_in_listing sum_over
listing_row m side [] = refl
listing_row m side (o ∷ os) = ap (λ n. cond (eqb m o.member) o.lots 0 + n) (listing_row m side os)

pending_is : (M : Market) (m : ℕ) → pending M m ≡ pending_lots M.rows m
pending_is M m = sum_same 16 (λ i. lots_in_listing m (listing M i)) (pending_in M.rows m) (λ i. omega (arith, listing_append m (map (listed Bid) (M.rows Bid i)) (map (listed Offer) (M.rows Offer i)), listing_row m Bid (M.rows Bid i), listing_row m Offer (M.rows Offer i)))

idle_row : (given : ℕ) (members : Members) (m : ℕ) (orders : List Order) → (members m).mode ≡ Reduction → AllByRecursion (Stands given members) orders → lots_of m orders ≡ 0
unfolding sum_over
idle_row given members m [] r h = refl
idle_row given members m (o ∷ os) r h = omega (arith, idle_row given members m os r h.1, first (is_of m o) refl)
  where
    first : (b : Bool) → is_of m o ≡ b → cond b o.lots 0 ≡ 0
    first true e = not_both_modes (members m).mode (ap (λ z. (members z).mode) (eqb-true m o.member e) ∙ h.0.active) r
    first false e = refl

-- ---- runs

module _ (charge : Charge) (reach : ℕ) (none : NoLotsNoCharge charge) (rise : RiseBounded charge reach) where
  run_between : (L : Ledger) (M : Market) (calls : List Made) → Between charge reach L M → Between charge reach (ledger_from charge L (deeds charge reach M calls)) (market_at_end charge reach M calls)
  run_between L M [] h = h
  run_between L M (c ∷ cs) h = run_between (deed_entry charge (deed_of charge reach M c) L) (market_after charge reach M c) cs (step_kept charge reach none rise c.places L M c.call h).between

  run_risk : (L : Ledger) (M : Market) (calls : List Made) → Between charge reach L M → DeedsReduceRisk charge L (deeds charge reach M calls)
  run_risk L M [] h = tt
  run_risk L M (c ∷ cs) h =
      let s = step_kept charge reach none rise c.places L M c.call h in
      (s.risk, run_risk (deed_entry charge (deed_of charge reach M c) L) (market_after charge reach M c) cs s.between)

  run_few : (L : Ledger) (M : Market) (calls : List Made) → Between charge reach L M → AllByRecursion (λ deed. length deed.events ≤ 257) (deeds charge reach M calls)
  run_few L M [] h = tt
  run_few L M (c ∷ cs) h =
      let s = step_kept charge reach none rise c.places L M c.call h in
      (s.few, run_few (deed_entry charge (deed_of charge reach M c) L) (market_after charge reach M c) cs s.between)

  fresh_between : Between charge reach blank_ledger fresh_market
  unfolding sum_over sum_below
  fresh_between =
      record {
        holds =
            record {
              orderly = record { uncrossed = λ _. tt; sequenced = λ _ _. tt; standing = λ _ _. tt };
              counted = record { few = omega arith; within = omega arith; once = λ _. omega arith; none_above = λ _ _. refl };
              margined = record { in_band = λ k _. omega arith; bounded = λ k. omega (arith, need_none charge none (λ _. 0) k) };
              reached = λ k s j. omega (arith, Rattle.runs.proofs.Between.coming_none Bid 0 0 k s j);
              balanced = λ _. refl;
              agree = record { deposit = λ _. refl; mode = λ _. refl; limit = λ _. refl; lots = λ k. omega (arith, rest_of_none 0 k); factor = refl; totals = refl };
              known = record { has_factor = λ _ e. absurd (Rattle.std.proofs.lemmas.Bool.false≢true e); no_factor = λ _ _. refl };
            };
        quiet = λ _. record { nobody_holds = λ _. refl; nothing_pending = λ _ _. refl };
      }

  sound : (run : List Deed) (M : Market) → DeedsReduceRisk charge blank_ledger run → AllByRecursion (λ deed. length deed.events ≤ 257) run → Between charge reach (ledger charge run) M → Sound charge run M
  sound run M risk few h =
      let g = h.holds in
      let L = ledger charge run in
      let owed_need : (m : ℕ) → m < 32 → owed charge L m ≡ need_of charge M.sheet m = λ m l. owed_is charge L (λ _. false) M.members M.sheet (left M.rows 0 0) m l g.agree in
      record {
        bids_below_offers = g.orderly.uncrossed;
        sides_by_rate_then_number = λ side i. in_sequence side (M.rows side i) (g.orderly.sequenced side i);
        reduction_has_nothing_pending = λ m e. pending_is M m ∙ sum_zero 16 (pending_in M.rows m) (λ i. omega (arith, idle_row M.given M.members m (M.rows Bid i) e (g.orderly.standing Bid i), idle_row M.given M.members m (M.rows Offer i) e (g.orderly.standing Offer i)));
        at_most_256_pending = omega (arith, g.counted.within, pending_length M.rows);
        no_number_twice = no_number_twice M.given 0 256 0 M.rows g.counted;
        lots_accounted_for = λ m. omega (arith, g.agree.lots m, pending_is M m, rest_of_none 0 m);
        bought_equals_sold = g.balanced;
        factors_are_the_ledgers = λ i. ap (λ (t : ℕ → ℕ). t i) (sym g.agree.factor);
        totals_are_the_ledgers = λ m side i. ap (λ (t : ℕ → Totals). t m side i) (sym g.agree.totals);
        need_is_the_charge_on_trades = λ m l. sym (owed_need m l);
        deposit_is_the_ledgers = λ m. sym (g.agree.deposit m);
        mode_is_the_ledgers = λ m. sym (g.agree.mode m);
        need_bounded = λ m l. subst (λ f. 20 * owed charge L m ≤ 19 * L.deposit m + 40 * (highest_below 16 f * L.limit m)) (sym g.agree.factor) (subst (λ x. 20 * owed charge L m ≤ 19 * L.deposit m + 40 * (highest_below 16 M.sheet.factor * x)) (sym (g.agree.limit m)) (omega (arith, owed_need m l, g.agree.deposit m, g.margined.bounded m)));
        normal_below_95_hundredths = λ m l e. omega (arith, owed_need m l, g.agree.deposit m, in_band_normal (M.members m).mode (need_of charge M.sheet m) (M.members m).deposit (sym (g.agree.mode m) ∙ e) (g.margined.in_band m refl));
        reduction_from_90_hundredths = λ m l e. omega (arith, owed_need m l, g.agree.deposit m, in_band_reduction (M.members m).mode (need_of charge M.sheet m) (M.members m).deposit (sym (g.agree.mode m) ∙ e) (g.margined.in_band m refl));
        trades_in_reduction_lower_need = risk;
        at_most_257_events = few;
      }

pub every_run_is_sound : SoundOverEveryKeeper
unfolding ledger
every_run_is_sound charge reach none rise calls =
    let start = fresh_between charge reach none rise in
    sound charge reach none rise (deeds charge reach fresh_market calls) (market_at_end charge reach fresh_market calls)
    (run_risk charge reach none rise blank_ledger fresh_market calls start)
    (run_few charge reach none rise blank_ledger fresh_market calls start)
    (run_between charge reach none rise blank_ledger fresh_market calls start)

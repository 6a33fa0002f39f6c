-- Admit and define in set-up, while nobody holds lots.
use Rattle.std.proofs.Common.{◌≡◌, ℕ, ◌+◌, ◌<◌, ◌≤◌, Bool, true, false, cond, eqb, ltb, leb, sym, refl, ap, ◌∙◌, subst, arith}
use Rattle.std.specs.List.{AllByRecursion}
use Rattle.std.proofs.lemmas.Bool.{cond-true, and_from, lt-ltb, le-leb, eq-eqb, true≢false}
use Rattle.terms.specs.declared.Side.TheVariants.{Bid, Offer}
use Rattle.terms.specs.Tables.{put}
use Rattle.terms.proofs.Tables.{put_cases, sum_zero}
use Rattle.margin.specs.Sheets.{Charge, can_set_factor, with_factor, after_set_factor, need_of}
use Rattle.margin.specs.Laws.{NoLotsNoCharge}
use Rattle.market.specs.declared.members.Limits.{Limits}
use Rattle.market.specs.declared.members.Mode.TheVariants.{Reduction}
use Rattle.market.specs.Markets.{Market, with_member, with_instrument, with_sheet, sum_over, lots_of, pending_in, pending_lots}
use Rattle.market.specs.Limits.{highest_limit}
use Rattle.market.specs.Calls.{admitted, defined}
use Rattle.market.specs.TableRows.{Member}
use Rattle.runs.specs.Ledgers.{Ledger, admit_entry, factor_entry}
use Rattle.runs.proofs.Orders.{Stands}
use Rattle.runs.proofs.Totals.{need_on, need_none}
use Rattle.runs.proofs.Margins.{InBand}
use Rattle.runs.proofs.Accounts.{rest_of_none}
use Rattle.runs.proofs.Holds.{left}
use Rattle.runs.proofs.Between.{Quiet, Between}

pending_none : (M : Market) (k : ℕ) → Quiet M → pending_lots M.rows k ≡ 0
unfolding sum_over
pending_none M k quiet = sum_zero 16 (pending_in M.rows k) (λ i. let bids = ap (lots_of k) (quiet.nothing_pending Bid i) in let offers = ap (lots_of k) (quiet.nothing_pending Offer i) in omega arith)

module _ (charge : Charge) (reach : ℕ) (none : NoLotsNoCharge charge) where
  quiet_need : (factor : ℕ → ℕ) (M : Market) (k : ℕ) → Quiet M → need_on charge factor (M.sheet.held k) k ≡ 0
  quiet_need factor M k quiet = ap (λ t. need_on charge factor t k) (quiet.nobody_holds k) ∙ need_none charge none factor k

  pub between_admitted : (L : Ledger) (M : Market) (m benchmarks : ℕ) (limits : Limits) → Quiet M → Between charge reach L M → Between charge reach (admit_entry m (highest_limit limits) L) (with_member M m (admitted benchmarks limits))
  between_admitted L M m benchmarks limits quiet h =
      let g = h.holds in
      record {
        holds =
            record {
              orderly = record { uncrossed = g.orderly.uncrossed; sequenced = g.orderly.sequenced; standing = λ side i. subst (AllByRecursion (Stands M.given (put M.members m (admitted benchmarks limits)))) (sym (quiet.nothing_pending side i)) tt };
              counted = g.counted;
              margined =
                  record {
                    in_band = λ k w. put_cases M.members m (admitted benchmarks limits) k (λ (r : Member). InBand r.mode (need_of charge M.sheet k) r.deposit) (λ _. omega arith) (λ _. g.margined.in_band k w);
                    bounded = λ k. omega (arith, quiet_need M.sheet.factor M k quiet);
                  };
              reached = g.reached;
              balanced = g.balanced;
              agree = record { deposit = λ k. deposits k (eqb m k); mode = λ k. modes k (eqb m k); limit = λ k. limit k (eqb m k); lots = λ k. lots k (eqb m k); factor = g.agree.factor; totals = g.agree.totals };
              known = g.known;
            };
        quiet = λ _. record { nobody_holds = quiet.nobody_holds; nothing_pending = quiet.nothing_pending };
      }
    where
      deposits : (k : ℕ) (b : Bool) → cond b 0 (L.deposit k) ≡ (cond b (admitted benchmarks limits) (M.members k)).deposit
      deposits k true = refl
      deposits k false = h.holds.agree.deposit k

      modes : (k : ℕ) (b : Bool) → cond b Reduction (L.mode k) ≡ (cond b (admitted benchmarks limits) (M.members k)).mode
      modes k true = refl
      modes k false = h.holds.agree.mode k

      limit : (k : ℕ) (b : Bool) → cond b (highest_limit limits) (L.limit k) ≡ highest_limit (cond b (admitted benchmarks limits) (M.members k)).limits
      limit k true = refl
      limit k false = h.holds.agree.limit k

      lots : (k : ℕ) (b : Bool) → cond b 0 (L.accepted k) ≡ cond b 0 (L.traded k) + left M.rows 0 0 k + cond b 0 (L.cancelled k)
      lots k true = let pending = pending_none M k quiet in let rest = rest_of_none 0 k in omega arith
      lots k false = h.holds.agree.lots k

  pub between_defined : (L : Ledger) (M : Market) (i benchmark group factor : ℕ) → i < 16 → (M.instruments i).defined ≡ false → 0 < factor → factor ≤ 100000 → Quiet M → Between charge reach L M → Between charge reach (factor_entry i factor L) (with_sheet (with_instrument M i (defined benchmark group)) (after_set_factor M.sheet i factor))
  between_defined L M i benchmark group factor l new some few quiet h =
      let g = h.holds in
      subst (λ t. Between charge reach (factor_entry i factor L) (with_sheet (with_instrument M i (defined benchmark group)) t)) (sym accepted)
      (record {
        holds =
            record {
              orderly = g.orderly;
              counted = g.counted;
              margined =
                  record {
                    in_band = λ k w. subst (λ n. InBand (M.members k).mode n (M.members k).deposit) (quiet_need M.sheet.factor M k quiet ∙ sym (quiet_need (put M.sheet.factor i factor) M k quiet)) (g.margined.in_band k w);
                    bounded = λ k. omega (arith, quiet_need (put M.sheet.factor i factor) M k quiet);
                  };
              reached = g.reached;
              balanced = g.balanced;
              agree = record { deposit = g.agree.deposit; mode = g.agree.mode; limit = g.agree.limit; lots = g.agree.lots; factor = ap (λ t. put t i factor) g.agree.factor; totals = g.agree.totals };
              known = record { has_factor = λ j. has j (eqb i j); no_factor = λ j. no j (eqb i j) };
            };
        quiet = λ _. record { nobody_holds = quiet.nobody_holds; nothing_pending = quiet.nothing_pending };
      })
    where
      accepted : after_set_factor M.sheet i factor ≡ with_factor M.sheet i factor
      accepted =
          cond-true (can_set_factor M.sheet i factor) (with_factor M.sheet i factor) M.sheet
          (and_from (ltb i 16) _ (lt-ltb i 16 l) (and_from (eqb (M.sheet.factor i) 0) _ (eq-eqb (M.sheet.factor i) 0 (h.holds.known.no_factor i new)) (and_from (leb 1 factor) (leb factor 100000) (le-leb 1 factor (omega arith)) (le-leb factor 100000 few))))

      has : (j : ℕ) (b : Bool) → (cond b (defined benchmark group) (M.instruments j)).defined ≡ true → 0 < cond b factor (M.sheet.factor j)
      has j true e = some
      has j false e = h.holds.known.has_factor j e

      no : (j : ℕ) (b : Bool) → (cond b (defined benchmark group) (M.instruments j)).defined ≡ false → cond b factor (M.sheet.factor j) ≡ 0
      no j true e = absurd (true≢false e)
      no j false e = h.holds.known.no_factor j e

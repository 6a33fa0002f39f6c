-- Needs against deposits: the band that each mode stands in, and the bound on every need. Kept by judging and by trades.
use Rattle.std.proofs.Common.{◌≡◌, ℕ, ◌+◌, ◌*◌, ◌<◌, ◌≤◌, Bool, true, false, ◌||◌, eqb, ltb, leb, ◌⊎◌, sym, refl, ◌∙◌, subst, inl, inr, mul-le-mul, arith}
use Rattle.std.proofs.lemmas.Bool.{cond_both, leb-true, leb-false, ltb-false, or_parts, eqb-true}
use Rattle.terms.specs.declared.Side.{Side}
use Rattle.terms.specs.Tables.{put}
use Rattle.terms.proofs.Tables.{put_cases}
use Rattle.margin.specs.Sheets.{Totals, Sheet, Charge, raised, need_of}
use Rattle.margin.specs.Laws.{Within, RiseBounded}
use Rattle.market.specs.declared.members.Mode.{Mode}
use Rattle.market.specs.declared.members.Mode.TheVariants.{Reduction, Normal}
use Rattle.market.specs.Limits.{highest_limit}
use Rattle.market.specs.Modes.{judged, judged_member}
use Rattle.market.specs.Meeting.{opposite}
use Rattle.market.specs.TableRows.{Member}
use Rattle.runs.specs.Promises.{highest_below}
use Rattle.runs.proofs.Highest.{at_most_highest}
use Rattle.runs.proofs.Orders.{Members}
use Rattle.runs.proofs.Totals.{trade_totals, placing_totals, other_totals, else_totals, need_on, need_rise}

-- Normal below 95 hundredths, reduction from 90 on.
abbrev pub InBand : Mode → ℕ → ℕ → Type 0
InBand Normal need deposit = 20 * need < 19 * deposit
InBand Reduction need deposit = 9 * deposit ≤ 10 * need

in_band_both : (mode : Mode) (need deposit : ℕ) → 20 * need < 19 * deposit → 9 * deposit ≤ 10 * need → InBand mode need deposit
in_band_both Normal need deposit below from = below
in_band_both Reduction need deposit below from = from

pub judged_in_band : (need deposit : ℕ) (mode : Mode) → InBand (judged need deposit mode) need deposit
judged_in_band need deposit mode =
    cond_both (leb (19 * deposit) (20 * need)) Reduction _ (λ m. InBand m need deposit)
    (λ e. omega (arith, leb-true (19 * deposit) (20 * need) e))
    (λ e. cond_both (ltb (10 * need) (9 * deposit)) Normal mode (λ m. InBand m need deposit)
    (λ _. leb-false (19 * deposit) (20 * need) e)
    (λ d. in_band_both mode need deposit (leb-false (19 * deposit) (20 * need) e) (ltb-false (10 * need) (9 * deposit) d)))

pub in_band_normal : (mode : Mode) (need deposit : ℕ) → mode ≡ Normal → InBand mode need deposit → 20 * need < 19 * deposit
in_band_normal mode need deposit e h = subst (λ m. InBand m need deposit) e h

pub in_band_reduction : (mode : Mode) (need deposit : ℕ) → mode ≡ Reduction → InBand mode need deposit → 9 * deposit ≤ 10 * need
in_band_reduction mode need deposit e h = subst (λ m. InBand m need deposit) e h

pub mode_cases : (mode : Mode) → (mode ≡ Normal) ⊎ (mode ≡ Reduction)
mode_cases Normal = inl refl
mode_cases Reduction = inr refl

pub not_both_modes : {A : Type 0} (mode : Mode) → mode ≡ Normal → mode ≡ Reduction → A
not_both_modes mode e f = absurd (let z : ◌≡◌ {A = ℕ} 0 1 = cc in omega arith)

-- A need above its deposit's share by at most one order of the highest limit at the highest factor.
abbrev pub Bounded : ℕ → Member → (ℕ → ℕ) → Type 0
Bounded need member factor = 20 * need ≤ 19 * member.deposit + 40 * (highest_below 16 factor * highest_limit member.limits)

bounded_rise : (before after deposit factor lots highest limit : ℕ) → 20 * before < 19 * deposit → after ≤ before + 2 * (factor * lots) → factor ≤ highest → lots ≤ limit → 20 * after ≤ 19 * deposit + 40 * (highest * limit)
bounded_rise before after deposit factor lots highest limit a b c e = omega (arith, mul-le-mul c e)

module _ (charge : Charge) where
  -- Members in `waiting` are still to be judged.
  pub record Margined (waiting : ℕ → Bool) (members : Members) (sheet : Sheet) : Type 0 where
    pub in_band : (k : ℕ) → waiting k ≡ false → InBand (members k).mode (need_of charge sheet k) (members k).deposit
    pub bounded : (k : ℕ) → Bounded (need_of charge sheet k) (members k) sheet.factor

  -- ---- judging

  pub margined_judged : (waiting fewer : ℕ → Bool) (members : Members) (sheet : Sheet) (m : ℕ) → ((k : ℕ) → (m ≡ k → ⊥) → fewer k ≡ waiting k) → Margined waiting members sheet → Margined fewer (put members m (judged_member (need_of charge sheet m) (members m))) sheet
  margined_judged waiting fewer members sheet m others h =
      record {
        in_band = λ k w. put_cases members m judged_row k (λ (r : Member). InBand r.mode (need_of charge sheet k) r.deposit) (λ e. subst (λ z. InBand judged_row.mode (need_of charge sheet z) (members m).deposit) e (judged_in_band (need_of charge sheet m) (members m).deposit (members m).mode)) (λ ne. h.in_band k (sym (others k ne) ∙ w));
        bounded = λ k. put_cases members m judged_row k (λ (r : Member). Bounded (need_of charge sheet k) r sheet.factor) (λ e. subst (λ z. Bounded (need_of charge sheet k) (members z) sheet.factor) (sym e) (h.bounded k)) (λ _. h.bounded k);
      }
    where
      judged_row : Member
      judged_row = judged_member (need_of charge sheet m) (members m)

  -- ---- a trade

  module _ (reach : ℕ) (rise : RiseBounded charge reach) (members : Members) (sheet : Sheet) (side : Side) (a b i q : ℕ) (different : eqb a b ≡ false) (within : (k : ℕ) → Within reach (sheet.held k)) (in_range : i < 16) where
    abbrev after : ℕ → Totals
    after = trade_totals sheet.held side a b i q

    -- A party in normal mode was below 95 hundredths; one in reduction mode has its need lowered.
    party_bounded : (k : ℕ) (own : Side) → sheet.held k own i + q ≤ reach → q ≤ highest_limit (members k).limits → ((members k).mode ≡ Reduction → need_on charge sheet.factor (raised (sheet.held k) own i q) k < need_of charge sheet k) → after k ≡ raised (sheet.held k) own i q → Margined (λ _. false) members sheet → Bounded (need_on charge sheet.factor (after k) k) (members k) sheet.factor
    party_bounded k own fits small lowered totals h =
        subst (λ t. Bounded (need_on charge sheet.factor t k) (members k) sheet.factor) (sym totals) (go (mode_cases (members k).mode))
      where
        go : ((members k).mode ≡ Normal) ⊎ ((members k).mode ≡ Reduction) → Bounded (need_on charge sheet.factor (raised (sheet.held k) own i q) k) (members k) sheet.factor
        go (inl n) = bounded_rise (need_of charge sheet k) (need_on charge sheet.factor (raised (sheet.held k) own i q) k) (members k).deposit (sheet.factor i) q (highest_below 16 sheet.factor) (highest_limit (members k).limits) (in_band_normal (members k).mode (need_of charge sheet k) (members k).deposit n (h.in_band k refl)) (need_rise charge reach rise sheet.factor (sheet.held k) own i q k (within k) fits) (at_most_highest 16 sheet.factor i in_range) small
        go (inr r) = omega (arith, lowered r, h.bounded k)

    pub margined_traded :
        sheet.held a side i + q ≤ reach → sheet.held b (opposite side) i + q ≤ reach
        → q ≤ highest_limit (members a).limits → q ≤ highest_limit (members b).limits
        → ((members a).mode ≡ Reduction → need_on charge sheet.factor (raised (sheet.held a) side i q) a < need_of charge sheet a)
        → (members b).mode ≡ Normal → Margined (λ _. false) members sheet
        → Margined (λ k. eqb a k || eqb b k) members (record { factor = sheet.factor; held = after })
    margined_traded fits-a fits-b small-a small_b lowered normal h =
        record {
          in_band = λ k w. let d = or_parts (eqb a k) (eqb b k) w in subst (λ t. InBand (members k).mode (need_on charge sheet.factor t k) (members k).deposit) (sym (else_totals sheet.held side a b i q k d.0 d.1)) (h.in_band k refl);
          bounded = λ k. by_party k (eqb a k) (eqb b k) refl refl;
        }
      where
        by_party : (k : ℕ) (x y : Bool) → eqb a k ≡ x → eqb b k ≡ y → Bounded (need_on charge sheet.factor (after k) k) (members k) sheet.factor
        by_party k true y d e = subst (λ z. Bounded (need_on charge sheet.factor (after z) z) (members z) sheet.factor) (eqb-true a k d) (party_bounded a side fits-a small-a lowered (placing_totals sheet.held side a b i q different) h)
        by_party k false true d e = subst (λ z. Bounded (need_on charge sheet.factor (after z) z) (members z) sheet.factor) (eqb-true b k e) (party_bounded b (opposite side) fits-b small_b (λ r. not_both_modes (members b).mode normal r) (other_totals sheet.held side a b i q different) h)
        by_party k false false d e = subst (λ t. Bounded (need_on charge sheet.factor t k) (members k) sheet.factor) (sym (else_totals sheet.held side a b i q k d e)) (h.bounded k)

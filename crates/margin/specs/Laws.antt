-- What every keeper shows of itself, and what follows for all of them.
use Rattle.std.specs.Prelude.{◌≡◌, ℕ, ◌+◌, ◌*◌, ◌^◌, ◌<◌, ◌≤◌}
use Rattle.terms.specs.declared.Side.{Side}
use Rattle.margin.specs.Sheets.{Totals, Sheet, Charge, no_lots, raised, need_of}

-- Totals that never pass a keeper's reach.
abbrev pub Within : ℕ → Totals → Type 0
Within reach totals = (side : Side) (instrument : ℕ) → totals side instrument ≤ reach

-- A sheet as a keeper may hold it: 16 instruments, 32 members, factors and totals in range, and no lots where there is no factor.
pub record Lawful (reach : ℕ) (sheet : Sheet) : Type 0 where
  pub factor_in_range : (i : ℕ) → sheet.factor i ≤ 100000
  pub no_factor_past : (i : ℕ) → 16 ≤ i → sheet.factor i ≡ 0
  pub total_in_reach : (m : ℕ) → Within reach (sheet.held m)
  pub no_factor_no_lots : (m : ℕ) (s : Side) (i : ℕ) → sheet.factor i ≡ 0 → sheet.held m s i ≡ 0
  pub no_lots_past : (m : ℕ) → 32 ≤ m → (s : Side) (i : ℕ) → sheet.held m s i ≡ 0

abbrev pub ReachInRange : ℕ → Type 0
ReachInRange reach = (1 ≤ reach) × (reach ≤ 100000)

-- The two laws of a charge.
abbrev pub NoLotsNoCharge : Charge → Type 0
NoLotsNoCharge charge = (factor : ℕ → ℕ) → charge factor no_lots ≡ 0

abbrev pub RiseBounded : Charge → ℕ → Type 0
RiseBounded charge reach =
    (factor : ℕ → ℕ) (totals : Totals) (side : Side) (i q : ℕ) → Within reach totals → totals side i + q ≤ reach
    → charge factor (raised totals side i q) ≤ charge factor totals + 2 * (factor i * q)

-- The most that any keeper can charge: 2 × 100,000 half-rupees a lot, on 16 instruments, 100,000 lots on each of two sides.
abbrev pub highest_need : ℕ
highest_need = 16 * (2 * (100000 * (100000 + 100000)))

-- Every need fits 64 bits, whatever the keeper, and so does a hundred times it.
pub record NeedsFit (charge : Charge) (sheet : Sheet) : Type 0 where
  pub bounded : (m : ℕ) → need_of charge sheet m ≤ highest_need
  pub in_64_bits : (m : ℕ) → 100 * need_of charge sheet m < 2 ^ 64

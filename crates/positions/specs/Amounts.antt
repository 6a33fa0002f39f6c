-- A rise in lots, times the factor.
use Rattle.std.specs.Prelude.{◌≡◌, ℕ, ◌+◌, ◌-◌, ◌*◌, ◌≤◌, min, max}
use Rattle.std.proofs.Common.{arith, mul-le-mul, mul-add, mul-zero, le_refl}
use Rattle.positions.specs.Charges.{standard_amount, AmountRiseBounded}

-- What grows by at most 2 × q grows, times a factor, by at most 2 × factor × q.
pub scaled_rise : (factor before after q : ℕ) → after ≤ before + 2 * q → factor * after ≤ factor * before + 2 * (factor * q)
scaled_rise factor before after q l =
    let scaled : factor * after ≤ factor * (before + (q + q)) = mul-le-mul (le_refl factor) (omega arith) in
    omega (arith, mul-add factor before (q + q), mul-add factor q q)

pub standard_none : (factor : ℕ) → standard_amount factor 0 0 ≡ 0
standard_none factor = mul-zero factor

pub standard_rise : AmountRiseBounded standard_amount
standard_rise factor bought sold q = (
  scaled_rise factor (2 * max bought sold - min bought sold) (2 * max (bought + q) sold - min (bought + q) sold) q (omega arith),
  scaled_rise factor (2 * max bought sold - min bought sold) (2 * max bought (sold + q) - min bought (sold + q)) q (omega arith),
)

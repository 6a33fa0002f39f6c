-- The charges that ship. Each is a sum over the instruments of an amount for one.
use Rattle.std.specs.Prelude.{◌≡◌, ℕ, ◌+◌, ◌-◌, ◌*◌, ◌^◌, ◌<◌, ◌≤◌, min, max, cond, Ok, Err, Result}
use Rattle.terms.specs.declared.Side.{Side}
use Rattle.terms.specs.declared.Side.TheVariants.{Bid, Offer}
use Rattle.terms.specs.Tables.{sum_below}
use Rattle.margin.specs.declared.refusal.KeeperRefusal.{KeeperRefusal}
use Rattle.positions.specs.declared.lots.AmountChange.{AmountChange}
use Rattle.margin.specs.Sheets.{Charge, Totals, Sheet, raised, can_record}

-- What one instrument adds to a member's charge, by factor, lots bought and lots sold.
abbrev pub Amount : Type 0
Amount = ℕ → ℕ → ℕ → ℕ

-- Half of the smaller total is offset against the larger: in half-rupees, twice the larger less the smaller.
abbrev pub standard_amount : Amount
standard_amount factor bought sold = factor * (2 * max bought sold - min bought sold)

-- No offset.
abbrev pub gross_amount : Amount
gross_amount factor bought sold = 2 * (factor * (bought + sold))

-- A charge is the sum over the 16 instruments.
abbrev pub amount_at : Amount → (ℕ → ℕ) → Totals → ℕ → ℕ
amount_at amount factor totals i = amount (factor i) (totals Bid i) (totals Offer i)

abbrev pub summed : Amount → Charge
summed amount factor totals = sum_below 16 (amount_at amount factor totals)

-- What one instrument adds before and after lots are recorded, refused where record is.
abbrev pub amounts_with : Amount → ℕ → Sheet → ℕ → ℕ → Side → ℕ → Result AmountChange KeeperRefusal
amounts_with amount reach sheet member instrument side lots =
    cond (can_record reach sheet member instrument side lots)
    (Ok
    (record {
      before = amount_at amount sheet.factor (sheet.held member) instrument;
      after = amount_at amount sheet.factor (raised (sheet.held member) side instrument lots) instrument;
    }))
    (Err (record {}))

-- A need moves with what one instrument adds: less the amount before, and the amount after more. The new one fits 64 bits.
pub record Moves (need : ℕ) (change : AmountChange) (new : ℕ) : Type 0 where
  pub enough : change.before ≤ need
  pub sum : need - change.before + change.after ≡ new
  pub fits : new < 2 ^ 64

-- q lots more on either side of an instrument add at most 2 × factor × q.
abbrev pub AmountRiseBounded : Amount → Type 0
AmountRiseBounded amount =
    (factor bought sold q : ℕ)
    → (amount factor (bought + q) sold ≤ amount factor bought sold + 2 * (factor * q))
    × (amount factor bought (sold + q) ≤ amount factor bought sold + 2 * (factor * q))

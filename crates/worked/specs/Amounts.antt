-- Charges, and the modes that follow from a need and a deposit.
use Rattle.std.specs.Prelude.{◌≡◌, ℕ}
use Rattle.terms.specs.declared.Side.TheVariants.{Bid, Offer}
use Rattle.margin.specs.Sheets.{Totals, no_lots, raised}
use Rattle.positions.specs.Charges.{summed, gross_amount}
use Rattle.market.specs.declared.members.Mode.TheVariants.{Reduction, Normal}
use Rattle.market.specs.Modes.{judged}
use Rattle.worked.specs.Venues.{standard}

-- Lots bought and sold in one instrument, and in no other.
abbrev pub bought_and_sold : ℕ → ℕ → ℕ → Totals
bought_and_sold i bought sold = raised (raised no_lots Bid i bought) Offer i sold

-- By the standard charge, at a factor of 100.
abbrev pub charged : Totals → ℕ
charged totals = standard (λ _. 100) totals

abbrev pub charged_gross : Totals → ℕ
charged_gross totals = summed gross_amount (λ _. 100) totals

pub record Charges : Type 0 where
  pub ten_sold : charged (bought_and_sold 0 0 10) ≡ 2000
  pub six_bought_and_ten_sold : charged (bought_and_sold 0 6 10) ≡ 1400
  pub ten_bought_and_six_sold : charged (bought_and_sold 0 10 6) ≡ 1400
  pub ten_bought_and_ten_sold : charged (bought_and_sold 0 10 10) ≡ 1000
  pub six_bought_and_ten_sold_in_the_last_instrument : charged (bought_and_sold 15 6 10) ≡ 1400
  -- Lots of one instrument are not offset against lots of another.
  pub ten_bought_and_ten_sold_in_another_instrument : charged (raised (bought_and_sold 0 10 0) Offer 1 10) ≡ 4000
  pub ten_sold_gross : charged_gross (bought_and_sold 0 0 10) ≡ 2000
  pub six_bought_and_ten_sold_gross : charged_gross (bought_and_sold 0 6 10) ≡ 3200
  pub ten_bought_and_ten_sold_gross : charged_gross (bought_and_sold 0 10 10) ≡ 4000

-- Of a deposit of 2,000, 95 hundredths are 1,900 and 90 hundredths 1,800.
pub record Modes : Type 0 where
  pub normal_turns_at_1900 : judged 1900 2000 Normal ≡ Reduction
  pub normal_stays_at_1899 : judged 1899 2000 Normal ≡ Normal
  pub normal_stays_at_1850 : judged 1850 2000 Normal ≡ Normal
  pub normal_stays_at_1800 : judged 1800 2000 Normal ≡ Normal
  pub normal_stays_at_1799 : judged 1799 2000 Normal ≡ Normal
  pub reduction_stays_at_1900 : judged 1900 2000 Reduction ≡ Reduction
  pub reduction_stays_at_1899 : judged 1899 2000 Reduction ≡ Reduction
  pub reduction_stays_at_1850 : judged 1850 2000 Reduction ≡ Reduction
  pub reduction_stays_at_1800 : judged 1800 2000 Reduction ≡ Reduction
  pub reduction_turns_at_1799 : judged 1799 2000 Reduction ≡ Normal
  -- Of no deposit, no need is 95 hundredths.
  pub reduction_with_no_deposit : judged 0 0 Reduction ≡ Reduction

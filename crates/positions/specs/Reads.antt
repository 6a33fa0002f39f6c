-- The sheet that a table of lots means.
use Rattle.std.specs.Prelude.{◌≡◌, ℕ, ◌+◌, Bool, not, ◌&&◌, ◌==◌, nat_le}
use Rattle.terms.specs.declared.Side.{Side}
use Rattle.terms.specs.Tables.{column}
use Rattle.margin.specs.Sheets.{Sheet}
use Rattle.positions.specs.declared.lots.InstrumentLots.{InstrumentLots}
use Rattle.positions.specs.declared.lots.LotsTable.{LotsTable}
use Rattle.positions.specs.declared.lots.Position.{Position}
use Rattle.positions.specs.Totals.{total_on, totals_of}

-- The lots in one instrument, by side and member.
abbrev pub lots_in : {reach : ℕ} → InstrumentLots reach → Side → ℕ → ℕ
lots_in instrument = totals_of instrument.members

abbrev pub sheet_of : {reach : ℕ} → LotsTable reach → Sheet
sheet_of table =
    record {
      factor = column 16 table.instruments (λ x. x.factor);
      held = λ member side. column 16 table.instruments (λ x. lots_in x side member);
    }

-- The position of one member in an instrument of this factor and these lots, by side and member.
pub record IsPosition (of_factor : ℕ) (lots : Side → ℕ → ℕ) (member : ℕ) (position : Position) : Type 0 where
  pub factor : position.factor ≡ of_factor
  pub totals : (side : Side) → total_on position.lots side ≡ lots side member

-- Set factor within one instrument.
abbrev pub can_take_factor : {reach : ℕ} → InstrumentLots reach → ℕ → Bool
can_take_factor instrument factor = instrument.factor == 0 && (nat_le 1 factor && nat_le factor 100000)

-- Record within one instrument, the member being there.
abbrev pub can_grow : {reach : ℕ} → ℕ → InstrumentLots reach → ℕ → Side → ℕ → Bool
can_grow within instrument member side lots =
    not (instrument.factor == 0) && (nat_le 1 lots && nat_le (lots_in instrument side member + lots) within)

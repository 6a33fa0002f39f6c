-- A venue as the rules see it.
use Rattle.std.specs.Prelude.{ℕ, cond, List, None, Option, nat_lt, slice_index_or}
use Rattle.margin.specs.Sheets.{Sheet}
use Rattle.market.specs.declared.instruments.Instrument.{Instrument as DefinedInstrument}
use Rattle.market.specs.declared.members.Member.{Member as AdmittedMember}
use Rattle.market.specs.TableRows.{Member, Instrument, member_row, instrument_row}
use Rattle.market.specs.Markets.{Market}
use Rattle.book.specs.Reads.{rows_of}
use Rattle.venue.specs.declared.state.Venue.{Venue}

-- A row of a table, if there is one. A table is cut at its number of rows by definition: a proof does not know an array's length.
abbrev pub row_at : {R : Type 0} → ℕ → List (Option R) → ℕ → Option R
row_at count rows k = cond (nat_lt k count) (slice_index_or rows k None) None

abbrev pub member_at : List (Option AdmittedMember) → ℕ → Member
member_at rows m = member_row (row_at 32 rows m)

abbrev pub instrument_at : List (Option DefinedInstrument) → ℕ → Instrument
instrument_at rows i = instrument_row (row_at 16 rows i)

-- `sheet` says what the keeper holds.
abbrev pub market_of : {K : Type 0} → (K → Sheet) → Venue K → Market
market_of sheet venue =
    record {
      phase = venue.phase;
      members = member_at venue.members.rows;
      instruments = instrument_at venue.instruments.rows;
      rows = rows_of venue.book;
      given = venue.given;
      sheet = sheet venue.keeper;
    }

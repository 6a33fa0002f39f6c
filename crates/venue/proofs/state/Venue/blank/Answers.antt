use Rattle.std.proofs.Common.{ap}
use mathlib.Core.Path.{fun_ext}
use Rattle.market.specs.TableRows.{member_row, instrument_row}
use Rattle.book.specs.Reads.{rows_in}
use Rattle.venue.proofs.Tables.{row_of_none}
use Rattle.venue.proofs.state.Venue.blank.Goals as goal

pub returns : goal.returns
returns g c =
    let members = fun_ext (row_of_none 32 member_row) in
    let instruments = fun_ext (row_of_none 16 instrument_row) in
    let rows = ap rows_in c.empty.ensures in
    λ k. record { phase = c.args.phase; members = members k; instruments = instruments k; rows = rows k; given = 0; sheet = g.K.Keeper.sheet c.args.keeper }

use Rattle.positions.proofs.Sheets.{fresh_table}
use Rattle.positions.proofs.lots.LotsTable.filled_with.Goals as goal

pub returns : goal.returns
returns g c = fresh_table c.args.blank c.requires.factor c.requires.lots

use Rattle.std.proofs.Common.{◌<◌, length, arith, rules}
use Rattle.positions.proofs.Sheets.{sheet_after_set_factor}
use Rattle.positions.proofs.lots.LotsTable.set_factor_at.Goals as goal

pub returns-clause-after : goal.returns-clause-after
returns-clause-after g c =
    let inside : c.args.i.number < length c.args.self.now.instruments = search rules in
    sheet_after_set_factor c.args.self.now.instruments c.args.i.number c.index-self-i.result (omega arith) inside
    c.set_factor.new.self c.args.factor c.set_factor.ensures.factor c.set_factor.ensures.lots

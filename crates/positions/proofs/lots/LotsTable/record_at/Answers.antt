use Rattle.std.proofs.Common.{◌<◌, length, arith, rules}
use Rattle.positions.proofs.Sheets.{sheet_after_record}
use Rattle.positions.proofs.lots.LotsTable.record_at.Goals as goal

pub returns-clause-after : goal.returns-clause-after
returns-clause-after g c =
    let inside : c.args.i.number < length c.args.self.now.instruments = search rules in
    sheet_after_record c.args.self.now.instruments c.args.i.number c.index-self-i.result (omega arith) inside
    g.row.REACH c.record.new.self c.args.m.number c.args.side c.args.lots (omega arith) c.record.ensures.factor c.record.ensures.lots

use Rattle.std.proofs.Common.{◌≡◌, ◌<◌, true, length, ◌∙◌, arith, rules}
use Rattle.margin.specs.Sheets.{can_record}
use Rattle.positions.specs.Reads.{sheet_of}
use Rattle.positions.proofs.Positions.{amount_now, amount_with}
use Rattle.positions.proofs.Moves.{need_moves}
use Rattle.positions.proofs.Sheets.{can_record_from, sheet_lawful}
use Rattle.positions.proofs.lots.LotsTable.amounts_at.Goals as goal

pub returns-clause-moves : goal.returns-clause-moves
returns-clause-moves g c =
    let inside : c.args.i.number < length c.args.self.now.instruments = search rules in
    let can : can_record g.row.REACH (sheet_of c.args.self.now) c.args.m.number c.args.i.number c.args.side c.args.lots ≡ true =
    can_record_from c.args.self.now.instruments c.args.i.number c.index-self-i.result (omega arith) inside g.row.REACH c.args.m.number c.args.side c.args.lots true (omega arith) c.in_ok-grown.ensures.answer in
    let before = c.amount-before.ensures
    ∙ amount_now g.T.Tariff.charged c.args.self.now.instruments c.args.i.number c.index-self-i-2.result (omega arith) inside
    c.args.m.number c.position.result c.position.ensures in
    let after = c.amount-after.ensures
    ∙ amount_with g.T.Tariff.charged c.args.self.now.instruments c.args.i.number c.index-self-i.result (omega arith) inside
    c.args.m.number c.args.side c.args.lots c.in_ok-grown.grown c.in_ok-grown.ensures.value in
    need_moves g.T.Tariff.charged g.met.T.Tariff.no_lots_no_amount g.met.T.Tariff.amount_rise_bounded g.row.REACH (omega (arith, g.REACH.fits))
    (sheet_of c.args.self.now) (sheet_lawful c.args.self.now) c.args.m.number c.args.i.number c.args.side c.args.lots _ (omega arith) can before after

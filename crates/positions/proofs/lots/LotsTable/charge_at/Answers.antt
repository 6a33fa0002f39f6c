use Rattle.std.proofs.Common.{◌≡◌, ◌<◌, ◌≤◌, length, refl, ◌∙◌, arith, rules}
use Rattle.terms.specs.Tables.{sum_below}
use Rattle.terms.proofs.Tables.{sum_more}
use Rattle.positions.specs.Charges.{amount_at}
use Rattle.positions.specs.Reads.{sheet_of}
use Rattle.positions.proofs.Sums.{most}
use Rattle.positions.proofs.Sheets.{sheet_lawful}
use Rattle.positions.proofs.Positions.{amount_now}
use Rattle.positions.proofs.Moves.{amount_at_bounded}
use Rattle.positions.proofs.lots.LotsTable.charge_at.Given as given
use Rattle.positions.proofs.lots.LotsTable.charge_at.Goals as goal

pub loop-instrument-init : goal.loop-instrument-init
unfolding sum_below
loop-instrument-init g c = (refl, omega arith)

-- What the instrument of this turn adds, and that it is not too much.
turn : (g : given.Over) (c : goal.After-amount-sum g)
    → (c.amount-sum.result ≡ amount_at g.T.Tariff.charged (sheet_of c.args.self.now).factor ((sheet_of c.args.self.now).held c.args.m.number) c.loop-instrument.instrument-index)
    × (c.amount-sum.result ≤ most)
turn g c =
    let amount = g.T.Tariff.charged in
    let i = c.loop-instrument.instrument-index in
    let inside : i < length c.args.self.now.instruments = search rules in
    let here = c.amount-sum.ensures ∙ amount_now amount c.args.self.now.instruments i c.instrument-item.result (omega arith) inside c.args.m.number c.position.result c.position.ensures in
    let few = amount_at_bounded amount g.met.T.Tariff.no_lots_no_amount g.met.T.Tariff.amount_rise_bounded g.row.REACH (omega (arith, g.REACH.fits)) (sheet_of c.args.self.now) (sheet_lawful c.args.self.now) c.args.m.number i in
    (here, omega arith)

pub overflow_add-sum : goal.overflow_add-sum
overflow_add-sum g c = omega (arith, (turn g c).1)

pub loop-instrument-preserved : goal.loop-instrument-preserved
loop-instrument-preserved g c =
    let sheet = sheet_of c.args.self.now in
    let here = turn g c in
    let more = sum_more c.loop-instrument.instrument-index (amount_at g.T.Tariff.charged sheet.factor (sheet.held c.args.m.number)) in
    (omega arith, omega arith)

use Rattle.std.proofs.Common.{◌≡◌, ◌*◌, ◌≤◌}
use Rattle.terms.specs.Tables.{sum_below}
use Rattle.positions.specs.Charges.{amount_at}
use Rattle.positions.specs.Reads.{sheet_of}
use Rattle.positions.proofs.Sums.{most}
use Rattle.positions.proofs.lots.LotsTable.charge_at.Given as goal

abbrev pub invariant-loop-instrument : goal.invariant-loop-instrument
invariant-loop-instrument g l =
    (l.sum ≡ sum_below l.instrument-index (amount_at g.T.Tariff.charged (sheet_of l.self).factor ((sheet_of l.self).held l.m.number)))
    × (l.sum ≤ most * l.instrument-index)

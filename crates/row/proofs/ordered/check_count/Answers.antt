use Rattle.row.specs.Laws.{RowLaws}
use Rattle.row.proofs.Orders.{row_laws}
use Rattle.row.proofs.ordered.check_count.Given as given
use Rattle.row.proofs.ordered.check_count.Goals as goal

laws : (g : given.Over) → RowLaws g.E.Precedence.Precedes g.E.Precedence.test
laws g =
    row_laws g.E.Precedence.Precedes g.E.Precedence.test
    g.met.E.Precedence.test_says_precedes g.met.E.Precedence.precedes_passes_test
    g.met.E.Precedence.one_way g.met.E.Precedence.not_preceding_carries

pub returns-then-n-row-clause-laws : goal.returns-then-n-row-clause-laws
returns-then-n-row-clause-laws g c = laws g

pub returns-clause-laws : goal.returns-clause-laws
returns-clause-laws g c = laws g

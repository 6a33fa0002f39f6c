use Rattle.std.proofs.Common.{ap, arith}
use Rattle.margin.specs.Sheets.{Totals}
use Rattle.positions.proofs.Members.{blank_totals}
use Rattle.positions.proofs.lots.InstrumentLots.blank.Goals as goal

pub invariant_of-result : goal.invariant_of-result
invariant_of-result g c =
    let none = blank_totals c.default.result c.default.ensures.0 c.default.ensures.1 in record {
      factor_in_range = omega arith;
      in_reach = λ s m. omega (arith, ap (λ (t : Totals). t s m) none);
      only_with_factor = λ s m _. ap (λ (t : Totals). t s m) none;
    }

pub returns-clause-lots : goal.returns-clause-lots
returns-clause-lots g c = blank_totals c.default.result c.default.ensures.0 c.default.ensures.1

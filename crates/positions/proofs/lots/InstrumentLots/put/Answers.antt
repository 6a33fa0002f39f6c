use Rattle.std.proofs.Common.{◌<◌, length, arith, rules}
use Rattle.positions.proofs.Members.{total_within, total_raised}
use Rattle.positions.proofs.lots.InstrumentLots.put.Goals as goal

pub invariant_of-self : goal.invariant_of-self
invariant_of-self g c =
    let self = c.args.self.now in
    let inside : c.args.member.number < length self.members = search rules in record {
      factor_in_range = self.factor_in_range;
      in_reach = total_within self.members c.args.side c.args.member.number c.args.total _ c.with_total.result (omega arith) inside c.with_total.ensures g.row.REACH self.in_reach c.requires.within;
      only_with_factor = λ s m none. absurd (omega (arith, none, c.requires.has_factor));
    }

pub returns-clause-lots : goal.returns-clause-lots
returns-clause-lots g c lots more =
    let self = c.args.self.now in
    let inside : c.args.member.number < length self.members = search rules in
    total_raised self.members c.args.side c.args.member.number c.args.total _ c.with_total.result (omega arith) inside c.with_total.ensures lots more

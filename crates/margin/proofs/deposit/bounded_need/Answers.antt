use Rattle.std.proofs.Common.{arith}
use Rattle.margin.proofs.Bounds.{needs_fit}
use Rattle.margin.proofs.deposit.bounded_need.Goals as goal

pub returns : goal.returns
returns g c =
    let fit =
    needs_fit g.K.Keeper.charge g.K.Keeper.REACH
    g.met.K.Keeper.reach_in_range g.met.K.Keeper.no_lots_no_charge g.met.K.Keeper.rise_bounded
    (g.K.Keeper.sheet c.args.keeper.now) (g.met.K.Keeper.sheet_is_lawful c.args.keeper.now) in
    record { value = c.need.ensures; fits = omega (arith, fit.in_64_bits c.args.member); needs_fit = fit }

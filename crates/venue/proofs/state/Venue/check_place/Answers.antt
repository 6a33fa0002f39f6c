use Rattle.std.proofs.Common.{◌++◌, ◌∙◌}
use Rattle.std.proofs.lemmas.Result.{err_from_is_err_and}
use Rattle.market.specs.Grounds.{entry_grounds, limit_grounds, mode_grounds}
use Rattle.venue.specs.Reads.{market_of}
use Rattle.venue.proofs.Checks.{checked_first, checked_next}
use Rattle.venue.proofs.state.Venue.check_place.Goals as goal

pub returns-in_err-member : goal.returns-in_err-member
returns-in_err-member g c =
    let M = market_of g.K.Keeper.sheet c.args.self.now in
    let new = c.args.new.now in
    let p = err_from_is_err_and c.from_residual.result c.from_residual.ensures.1 in
    rw (p.1, p.2) (checked_first (entry_grounds g.K.Keeper.charge g.K.Keeper.REACH c.args.places M new) (limit_grounds g.K.Keeper.charge g.K.Keeper.REACH M new ++ mode_grounds g.K.Keeper.charge g.K.Keeper.REACH M new) _ c.in_err-member.ensures.refused)

pub returns-in_err-check_limits : goal.returns-in_err-check_limits
returns-in_err-check_limits g c =
    let M = market_of g.K.Keeper.sheet c.args.self.now in
    let new = c.args.new.now in
    let p = err_from_is_err_and c.from_residual-in_err-check_limits.result c.from_residual-in_err-check_limits.ensures.1 in
    rw (p.1, p.2) (
    checked_first (limit_grounds g.K.Keeper.charge g.K.Keeper.REACH M new) (mode_grounds g.K.Keeper.charge g.K.Keeper.REACH M new) _ c.in_err-check_limits.ensures
    ∙ checked_next (entry_grounds g.K.Keeper.charge g.K.Keeper.REACH c.args.places M new) (limit_grounds g.K.Keeper.charge g.K.Keeper.REACH M new ++ mode_grounds g.K.Keeper.charge g.K.Keeper.REACH M new) tt c.in_ok-member.ensures.passed)

pub returns : goal.returns
returns g c =
    let M = market_of g.K.Keeper.sheet c.args.self.now in
    let new = c.args.new.now in
    c.check_mode.ensures
    ∙ checked_next (limit_grounds g.K.Keeper.charge g.K.Keeper.REACH M new) (mode_grounds g.K.Keeper.charge g.K.Keeper.REACH M new) tt c.in_ok-check_limits.ensures
    ∙ checked_next (entry_grounds g.K.Keeper.charge g.K.Keeper.REACH c.args.places M new) (limit_grounds g.K.Keeper.charge g.K.Keeper.REACH M new ++ mode_grounds g.K.Keeper.charge g.K.Keeper.REACH M new) tt c.in_ok-member.ensures.passed

use Rattle.std.proofs.Common.{◌≡◌, ◌*◌, ◌≤◌, cond}
use Rattle.terms.specs.Tables.{sum_below}
use Rattle.market.specs.Limits.{is_over_five_years}
use Rattle.market.specs.Markets.{pending_in}
use Rattle.venue.specs.Reads.{market_of}
use Rattle.venue.proofs.state.Venue.pending_long.Given as goal

abbrev pub invariant-loop-i : goal.invariant-loop-i
invariant-loop-i g l =
    (l.sum ≡ sum_below l.i (λ i. cond (is_over_five_years ((market_of g.K.Keeper.sheet l.self).instruments i).group) (pending_in (market_of g.K.Keeper.sheet l.self).rows l.member i) 0))
    × (l.sum ≤ 16776960 * l.i)

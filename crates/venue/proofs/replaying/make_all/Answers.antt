use Rattle.std.proofs.Common.{ℕ, ◌++◌, length, get_or, drop, ap, ◌∙◌}
use Rattle.market.specs.declared.calls.Call.{Call}
use Rattle.market.specs.declared.calls.Call.TheVariants.{Admit}
use Rattle.market.specs.Calls.{Outcome, outcome}
use Rattle.venue.specs.Reads.{market_of}
use Rattle.venue.proofs.Runs.{log_more, list_more}
use Rattle.venue.proofs.replaying.make_all.Goals as goal

pub loop-call-preserved : goal.loop-call-preserved
loop-call-preserved g c =
    let charge = g.K.Keeper.charge in
    let reach = g.K.Keeper.REACH in
    let M = market_of g.K.Keeper.sheet c.loop-call.venue in
    let N = market_of g.K.Keeper.sheet c.make.new.self in
    let blank : Call = Admit 0 0 (record { up_to_one_year = 0; up_to_five_years = 0; over_five_years = 0 }) in
    let made : ℕ → Outcome = λ n. outcome charge reach n M (get_or c.args.log.now c.loop-call.call-index blank) in
    let places = length c.args.events.now in
    let became = c.make.ensures.became ∙ ap (λ n. (made n).market) c.loop-call.auto.events in
    let told = c.make.ensures.told ∙ ap (λ n. (made n).events ++ drop (length (made n).events) c.loop-call.events) c.loop-call.auto.events in (
      c.loop-call.invariant.0 ∙ log_more charge reach places M N c.args.log.now c.loop-call.call-index blank c.loop-call-test.true became,
      c.loop-call.invariant.1 ∙ list_more charge reach places M N c.args.log.now c.loop-call.call-index blank c.loop-call.events c.make.new.events c.loop-call-test.true became told,
    )

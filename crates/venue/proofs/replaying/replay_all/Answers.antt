use Rattle.std.proofs.Common.{length, sym, ap, ◌∙◌, subst}
use Rattle.market.specs.Markets.{Market, begun, fresh_market}
use Rattle.runs.specs.Deeds.{deeds, market_at_end}
use Rattle.runs.specs.Promises.{Sound}
use Rattle.runs.proofs.Soundness.{every_run_is_sound}
use Rattle.venue.specs.Replays.{made_with, list_at_end}
use Rattle.venue.proofs.replaying.replay_all.Goals as goal

pub returns : goal.returns
returns g c =
    let charge = g.K.Keeper.charge in
    let reach = g.K.Keeper.REACH in
    let calls = made_with (length c.args.events.now) c.args.log.now in
    let became = c.make_all.ensures.became ∙ ap (λ (M : Market). market_at_end charge reach M calls) c.begin.ensures in
    record {
      became = became;
      told = c.make_all.ensures.told ∙ ap (λ (M : Market). list_at_end charge reach M calls c.args.events.now) c.begin.ensures;
      sound = λ fresh. subst (λ (M : Market). Sound charge (deeds charge reach fresh_market calls) M) (sym (became ∙ ap (λ sheet. market_at_end charge reach (begun sheet) calls) fresh)) (every_run_is_sound charge reach g.met.K.Keeper.no_lots_no_charge g.met.K.Keeper.rise_bounded calls);
    }

use Rattle.std.proofs.Common.{◌≡◌, ◌&&◌, sym, ap, ◌∙◌, subst, arith}
use Rattle.market.specs.declared.events.Reason.TheVariants.{TurnedToReduction}
use Rattle.market.specs.Cancels.{cancelling}
use Rattle.market.specs.Markets.{Market, Told, with_member, is_of}
use Rattle.market.specs.Modes.{need as need_by, has_fallen, judged_member}
use Rattle.market.proofs.Lists.{wrote_none}
use Rattle.venue.specs.Reads.{market_of}
use Rattle.venue.specs.Turns.{Did}
use Rattle.venue.proofs.Telling.{nothing_cancelled}
use Rattle.venue.proofs.state.Venue.judge.Goals as goal

pub returns-else-has_fallen-clause-did : goal.returns-else-has_fallen-clause-did
returns-else-has_fallen-clause-did g c =
    let M = market_of g.K.Keeper.sheet c.args.self.now in
    let m = c.args.member in
    let list = c.args.list.now in
    let row = with_member M m (judged_member (need_by g.K.Keeper.charge M m) (M.members m)) in
    let same = nothing_cancelled (has_fallen g.K.Keeper.charge M m) (is_of m) TurnedToReduction row (sym c.judge_mode-has_fallen.ensures.fallen ∙ c.if-has_fallen.false) in
    subst (λ (t : Told). Did t (market_of g.K.Keeper.sheet c.judge_mode-has_fallen.new.self) list.places.now list.places.now list.told list.told) (sym same)
    (record { market_is = c.judge_mode-has_fallen.ensures.market; wrote = wrote_none list.places.now list.told (omega (arith, c.requires)) })

pub returns-then-has_fallen-clause-did : goal.returns-then-has_fallen-clause-did
returns-then-has_fallen-clause-did g c =
    let M = market_of g.K.Keeper.sheet c.args.self.now in
    let m = c.args.member in
    let row = with_member M m (judged_member (need_by g.K.Keeper.charge M m) (M.members m)) in
    let fell : has_fallen g.K.Keeper.charge M m ≡ _ = sym c.judge_mode-has_fallen.ensures.fallen ∙ c.if-has_fallen.true in
    subst (λ (t : Told). Did t (market_of g.K.Keeper.sheet c.cancel_picked.new.self) c.args.list.now.places.now c.cancel_picked.new.list.places.now c.args.list.now.told c.cancel_picked.new.list.told)
    (ap (λ (N : Market). cancelling (is_of m) TurnedToReduction N) c.judge_mode-has_fallen.ensures.market ∙ sym (ap (λ b. cancelling (λ o. b && is_of m o) TurnedToReduction row) fell))
    c.cancel_picked.ensures.did

use Rattle.std.proofs.Common.{◌-◌, true, false, [], ◌∷◌, sym, ap, ◌∙◌, subst, arith}
use Rattle.market.specs.declared.events.Event.TheVariants.{Traded}
use Rattle.market.specs.declared.events.Reason.TheVariants.{TurnedToReduction}
use Rattle.market.specs.declared.events.Trade.{Trade}
use Rattle.market.specs.Lists.{Wrote}
use Rattle.market.proofs.Lists.{wrote_none, wrote_length}
use Rattle.venue.specs.Reads.{market_of}
use Rattle.market.specs.Modes.{judge}
use Rattle.venue.specs.declared.event_list.EventList.{EventList}
use Rattle.venue.specs.declared.incoming.IncomingOrder.{IncomingOrder}
use Rattle.venue.specs.Turns.{pending_count, Did}
use Rattle.venue.proofs.Fills.{filled_first, trade_few, rest_few}
use Rattle.venue.proofs.state.Venue.fill.Goals as goal
use Rattle.venue.proofs.state.Venue.fill.Goals.{then-judge, else-judge}

pub judge-requires : goal.judge-requires
judge-requires g c =
    let incoming = c.args.incoming.now in
    let few = trade_few g.K.Keeper.REACH (market_of g.K.Keeper.sheet c.args.self.now) incoming.order c.args.pending.now incoming.rest c.min-lots.result incoming.in_range c.requires.some_left c.min-lots.ensures c.requires.pending_is_first in
    let after = ap pending_count c.trade-trade.ensures.market in
    omega (arith, c.tell.ensures.wrote.count, wrote_length _ _ _ _ _ c.tell.ensures.wrote, c.requires.room_for_events)

pub cancel_rest-requires : goal.cancel_rest-requires
cancel_rest-requires g c =
    let incoming = c.args.incoming.now in
    let few = trade_few g.K.Keeper.REACH (market_of g.K.Keeper.sheet c.args.self.now) incoming.order c.args.pending.now incoming.rest c.min-lots.result incoming.in_range c.requires.some_left c.min-lots.ensures c.requires.pending_is_first in
    let after = ap pending_count c.trade-trade.ensures.market in
    omega (arith, c.tell.ensures.wrote.count, wrote_length _ _ _ _ _ c.tell.ensures.wrote, c.judge.ensures.few, wrote_length _ _ _ _ _ c.judge.ensures.did.wrote, c.requires.room_for_events)

pub judge-requires-2 : goal.judge-requires-2
judge-requires-2 g c =
    let incoming = c.args.incoming.now in
    let few = trade_few g.K.Keeper.REACH (market_of g.K.Keeper.sheet c.args.self.now) incoming.order c.args.pending.now incoming.rest c.min-lots.result incoming.in_range c.requires.some_left c.min-lots.ensures c.requires.pending_is_first in
    let after = ap pending_count c.trade-trade.ensures.market in
    let told = c.tell.ensures.wrote in
    let placing = c.judge.ensures.did.wrote in
    elim c.if-judge.branch [
      | then-judge w ↦ rw w.list-is (let own = w.cancel_rest.ensures.wrote in omega (arith, told.count, wrote_length _ _ _ _ _ told, c.judge.ensures.few, wrote_length _ _ _ _ _ placing, own.count, wrote_length _ _ _ _ _ own, rest_few incoming.number incoming.order TurnedToReduction (incoming.rest - c.min-lots.result), c.requires.room_for_events))
      | else-judge w ↦ rw w.list-is (omega (arith, told.count, wrote_length _ _ _ _ _ told, c.judge.ensures.few, wrote_length _ _ _ _ _ placing, c.requires.room_for_events))
    ]

pub returns-clause-turned : goal.returns-clause-turned
returns-clause-turned g c =
    let incoming = c.args.incoming.now in
    let M = market_of g.K.Keeper.sheet c.args.self.now in
    let N = market_of g.K.Keeper.sheet c.trade-trade.new.self in
    let O = market_of g.K.Keeper.sheet c.judge.new.self in
    let P = market_of g.K.Keeper.sheet c.judge-2.new.self in
    let list = c.args.list.now in
    let after = c.judge-2.new.list in
    let told = subst (λ (t : Trade). Wrote list.places.now c.tell.new.self.places.now list.told c.tell.new.self.told (Traded t ∷ [])) c.trade-trade.ensures.trade c.tell.ensures.wrote in
    elim c.if-judge.branch [
      | then-judge w ↦ rw (w.incoming-is, w.cancel_rest.ensures.none_left) (
          filled_first g.K.Keeper.charge g.K.Keeper.REACH incoming.number incoming.order M N O P incoming.rest c.min-lots.result c.args.pending.now true
          list.places.now c.tell.new.self.places.now c.judge.new.list.places.now w.cancel_rest.new.self.places.now after.places.now list.told c.tell.new.self.told c.judge.new.list.told w.cancel_rest.new.self.told after.told
          c.min-lots.ensures c.requires.pending_is_first c.trade-trade.ensures.market told c.judge.ensures.did (sym w.if-judge.true ∙ c.judge.ensures.fallen) w.cancel_rest.ensures.wrote
          (subst (λ (l : EventList). Did (judge g.K.Keeper.charge O c.args.pending.now.member) P l.places.now after.places.now l.told after.told) w.list-is c.judge-2.ensures.did))
      | else-judge w ↦ rw w.incoming-is (
          filled_first g.K.Keeper.charge g.K.Keeper.REACH incoming.number incoming.order M N O P incoming.rest c.min-lots.result c.args.pending.now false
          list.places.now c.tell.new.self.places.now c.judge.new.list.places.now c.judge.new.list.places.now after.places.now list.told c.tell.new.self.told c.judge.new.list.told c.judge.new.list.told after.told
          c.min-lots.ensures c.requires.pending_is_first c.trade-trade.ensures.market told c.judge.ensures.did (sym w.if-judge.false ∙ c.judge.ensures.fallen)
          (wrote_none c.judge.new.list.places.now c.judge.new.list.told (let did = c.judge.ensures.did.wrote in omega (arith, did.fits, wrote_length _ _ _ _ _ did)))
          (subst (λ (l : EventList). Did (judge g.K.Keeper.charge O c.args.pending.now.member) P l.places.now after.places.now l.told after.told) w.list-is c.judge-2.ensures.did))
    ]

pub returns-clause-few : goal.returns-clause-few
returns-clause-few g c =
    let incoming = c.args.incoming.now in
    let few = trade_few g.K.Keeper.REACH (market_of g.K.Keeper.sheet c.args.self.now) incoming.order c.args.pending.now incoming.rest c.min-lots.result incoming.in_range c.requires.some_left c.min-lots.ensures c.requires.pending_is_first in
    let after = ap pending_count c.trade-trade.ensures.market in
    let told = c.tell.ensures.wrote in
    elim c.if-judge.branch [
      | then-judge w ↦
          let none = ap (λ (i : IncomingOrder). i.rest) w.incoming-is ∙ w.cancel_rest.ensures.none_left in
          let from = ap (λ (l : EventList). l.told) w.list-is in
          let own = w.cancel_rest.ensures.wrote in
          omega (arith, told.count, c.judge.ensures.few, own.count, rest_few incoming.number incoming.order TurnedToReduction (incoming.rest - c.min-lots.result), c.judge-2.ensures.few)
      | else-judge w ↦
          let left = ap (λ (i : IncomingOrder). i.rest) w.incoming-is in
          let from = ap (λ (l : EventList). l.told) w.list-is in
          omega (arith, told.count, c.judge.ensures.few, c.judge-2.ensures.few)
    ]

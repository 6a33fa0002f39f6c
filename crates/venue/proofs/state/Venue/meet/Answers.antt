use Rattle.std.proofs.Common.{◌≡◌, suc, ◌+◌, ◌-◌, take, ap, ◌∙◌, subst, arith}
use Rattle.market.specs.Meeting.{Meeting, met, turn, repeated}
use Rattle.venue.specs.Reads.{market_of}
use Rattle.venue.specs.Turns.{meeting_at, Turned}
use Rattle.venue.proofs.Turning.{going, turned_on, turned_over, all_wrote, none_left}
use Rattle.venue.proofs.state.Venue.meet.Goals as goal

pub returns-then-not-turn-clause-met : goal.returns-then-not-turn-clause-met
returns-then-not-turn-clause-met g c =
    let charge = g.K.Keeper.charge in
    let reach = g.K.Keeper.REACH in
    let number = c.args.incoming.now.number in
    let new = c.args.incoming.now.order in
    let M = market_of g.K.Keeper.sheet c.loop.self in
    let N = market_of g.K.Keeper.sheet c.turn.new.self in
    let k = new.lots - (c.loop.counter + 1) in
    let whole = met charge reach number new (market_of g.K.Keeper.sheet c.args.self.now) in
    let mid = c.loop.list in
    let after = c.turn.new.list in
    let here = going M c.loop.incoming.rest (take mid.told mid.places.now) in
    let before = c.loop.invariant.to_come ∙ ap (λ n. repeated n (turn charge reach number new) here) (let e : new.lots - c.loop.counter ≡ suc k = omega arith in e) in
    let turned = subst (λ (t : Meeting). Turned t N c.turn.new.incoming.rest c.turn.result mid.places.now after.places.now mid.told after.told) (λ i. turn charge reach (c.loop.invariant.same_order.number i) (c.loop.invariant.same_order.order i) (meeting_at M c.loop.incoming.rest)) c.turn.ensures.turned in
    let over = turned_over charge reach number new whole k M N c.loop.incoming.rest c.turn.new.incoming.rest c.turn.result c.args.list.now.places.now mid.places.now after.places.now mid.told after.told before c.loop.invariant.wrote turned c.if-not-turn.true in
    record { market_is = over.market_is; rest_is = over.rest_is; wrote = over.wrote }

pub loop-preserved : goal.loop-preserved
loop-preserved g c =
    let charge = g.K.Keeper.charge in
    let reach = g.K.Keeper.REACH in
    let number = c.args.incoming.now.number in
    let new = c.args.incoming.now.order in
    let M = market_of g.K.Keeper.sheet c.loop.self in
    let N = market_of g.K.Keeper.sheet c.turn.new.self in
    let k = new.lots - (c.loop.counter + 1) in
    let whole = met charge reach number new (market_of g.K.Keeper.sheet c.args.self.now) in
    let mid = c.loop.list in
    let after = c.turn.new.list in
    let here = going M c.loop.incoming.rest (take mid.told mid.places.now) in
    let before = c.loop.invariant.to_come ∙ ap (λ n. repeated n (turn charge reach number new) here) (let e : new.lots - c.loop.counter ≡ suc k = omega arith in e) in
    let meets = c.if-not-turn.false in
    let turned = subst (λ (t : Meeting). Turned t N c.turn.new.incoming.rest c.turn.result mid.places.now after.places.now mid.told after.told) (λ i. turn charge reach (c.loop.invariant.same_order.number i) (c.loop.invariant.same_order.order i) (meeting_at M c.loop.incoming.rest)) c.turn.ensures.turned in
    let on = turned_on charge reach number new whole k M N c.loop.incoming.rest c.turn.new.incoming.rest c.turn.result c.args.list.now.places.now mid.places.now after.places.now mid.told after.told before c.loop.invariant.wrote turned in
    record {
      to_come = on ∙ (λ i. repeated k (turn charge reach number new) (record { market = N; rest = c.turn.new.incoming.rest; meets = meets i; events = take after.told after.places.now }));
      wrote = all_wrote charge reach number new whole k M N c.loop.incoming.rest c.turn.new.incoming.rest c.turn.result c.args.list.now.places.now mid.places.now after.places.now mid.told after.told before c.loop.invariant.wrote turned;
      some_left = c.turn.ensures.going meets;
      few = omega (arith, c.turn.ensures.few, c.loop.invariant.few, c.turn.ensures.going meets);
      same_order = record { number = c.turn.ensures.same_order.number ∙ c.loop.invariant.same_order.number; order = c.turn.ensures.same_order.order ∙ c.loop.invariant.same_order.order };
      same_list = c.turn.ensures.same_list ∙ c.loop.invariant.same_list;
    }

pub returns-clause-met : goal.returns-clause-met
returns-clause-met g c =
    let charge = g.K.Keeper.charge in
    let reach = g.K.Keeper.REACH in
    let number = c.args.incoming.now.number in
    let new = c.args.incoming.now.order in
    let M = market_of g.K.Keeper.sheet c.loop.self in
    let whole = met charge reach number new (market_of g.K.Keeper.sheet c.args.self.now) in
    let here = going M c.loop.incoming.rest (take c.loop.list.told c.loop.list.places.now) in
    let before = c.loop.invariant.to_come ∙ ap (λ n. repeated n (turn charge reach number new) here) (let e : new.lots - c.loop.counter ≡ 0 = omega arith in e) in
    let left = none_left charge reach number new whole M c.loop.incoming.rest c.args.list.now.places.now c.loop.list.places.now c.loop.list.told before c.loop.invariant.wrote in
    record { market_is = left.market_is; rest_is = left.rest_is; wrote = left.wrote }

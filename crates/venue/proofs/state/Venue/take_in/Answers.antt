use Rattle.std.proofs.Common.{length, add-one, subst, arith}
use Rattle.market.proofs.Lists.{wrote_length}
use Rattle.market.specs.Markets.{Told}
use Rattle.venue.specs.Reads.{market_of}
use Rattle.venue.specs.Turns.{rest_settled, Did}
use Rattle.venue.proofs.Checks.{pending_few}
use Rattle.venue.proofs.Places.{placeable, place_obeys}
use Rattle.venue.proofs.state.Venue.take_in.Goals as goal

pub overflow_add-number : goal.overflow_add-number
overflow_add-number g c =
    let v = c.args.self.now in
    let ok = placeable g.K.Keeper.charge g.K.Keeper.REACH (length c.args.list.now.places.now) (market_of g.K.Keeper.sheet v) c.args.new.now (omega (arith, pending_few v.book)) c.requires.passed in
    omega (arith, ok.numbers_left)

pub meet-requires-clause-room_for_events : goal.meet-requires-clause-room_for_events
meet-requires-clause-room_for_events g c =
    let v = c.args.self.now in
    let ok = placeable g.K.Keeper.charge g.K.Keeper.REACH (length c.args.list.now.places.now) (market_of g.K.Keeper.sheet v) c.args.new.now (omega (arith, pending_few v.book)) c.requires.passed in
    omega (arith, ok.long, pending_few v.book)

pub settle-requires-clause-room_in_book : goal.settle-requires-clause-room_in_book
settle-requires-clause-room_in_book g c =
    let v = c.args.self.now in
    let ok = placeable g.K.Keeper.charge g.K.Keeper.REACH (length c.args.list.now.places.now) (market_of g.K.Keeper.sheet v) c.args.new.now (omega (arith, pending_few v.book)) c.requires.passed in
    rw c.meet.ensures.same_order.order (λ day. omega (arith, ok.free_place day, c.meet.ensures.few))

pub settle-requires-clause-room_for_events : goal.settle-requires-clause-room_for_events
settle-requires-clause-room_for_events g c =
    let v = c.args.self.now in
    let ok = placeable g.K.Keeper.charge g.K.Keeper.REACH (length c.args.list.now.places.now) (market_of g.K.Keeper.sheet v) c.args.new.now (omega (arith, pending_few v.book)) c.requires.passed in
    omega (arith, ok.long, pending_few v.book, c.meet.ensures.few, wrote_length _ _ _ _ _ c.meet.ensures.met.wrote)

pub returns-clause-obeys : goal.returns-clause-obeys
returns-clause-obeys g c =
    let v = c.args.self.now in
    let M = market_of g.K.Keeper.sheet v in
    let O = market_of g.K.Keeper.sheet c.settle.new.self in
    let list = c.args.list.now in
    let mid = c.meet.new.list in
    let after = c.settle.new.list in
    let did = subst (λ (t : Told). Did t O mid.places.now after.places.now mid.told after.told) (λ i. rest_settled (c.meet.ensures.same_order.number i) (c.meet.ensures.same_order.order i) (market_of g.K.Keeper.sheet c.meet.new.self) c.meet.new.incoming.rest) c.settle.ensures.did in
    place_obeys g.K.Keeper.charge g.K.Keeper.REACH c.args.new.now M (market_of g.K.Keeper.sheet c.meet.new.self) O _ c.meet.new.incoming.rest list.places.now mid.places.now after.places.now mid.told after.told (add-one v.given) c.requires.passed c.meet.ensures.met did

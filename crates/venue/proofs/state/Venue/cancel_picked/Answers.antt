use Rattle.std.proofs.Common.{◌+◌, length, ap, ◌∙◌}
use Rattle.market.specs.Markets.{pending_orders}
use Rattle.book.specs.Picks.{picks}
use Rattle.book.specs.Reads.{taken_orders}
use Rattle.venue.specs.Reads.{market_of}
use Rattle.venue.proofs.Telling.{told_few, never_none}
use Rattle.venue.proofs.state.Venue.cancel_picked.Goals as goal

pub returns-in-Some-clause-few : goal.returns-in-Some-clause-few
returns-in-Some-clause-few g c =
    let M = market_of g.K.Keeper.sheet c.args.self.now in
    ap (λ z. c.in-Some.told + length (pending_orders z)) c.cancel-taken.ensures.after
    ∙ told_few (picks c.args.picked) M.rows (taken_orders c.cancel-taken.result) c.args.reason c.args.list.now.places.now c.tell.new.events c.args.list.now.told c.cancel-taken.ensures.orders c.requires c.tell.ensures.after c.tell.result c.tell.ensures.answer c.in-Some.told c.in-Some.is

-- There is room for all pending orders.
pub returns-in_default-clause-did : goal.returns-in_default-clause-did
returns-in_default-clause-did g c =
    let M = market_of g.K.Keeper.sheet c.args.self.now in
    never_none (picks c.args.picked) M.rows (taken_orders c.cancel-taken.result) c.args.reason c.args.list.now.places.now c.tell.new.events c.args.list.now.told c.cancel-taken.ensures.orders c.requires c.tell.ensures.after c.tell.result c.tell.ensures.answer c.in_default.is

pub returns-in_default-clause-few : goal.returns-in_default-clause-few
returns-in_default-clause-few g c =
    let M = market_of g.K.Keeper.sheet c.args.self.now in
    never_none (picks c.args.picked) M.rows (taken_orders c.cancel-taken.result) c.args.reason c.args.list.now.places.now c.tell.new.events c.args.list.now.told c.cancel-taken.ensures.orders c.requires c.tell.ensures.after c.tell.result c.tell.ensures.answer c.in_default.is

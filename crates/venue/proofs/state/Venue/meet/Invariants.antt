use Rattle.std.proofs.Common.{◌≡◌, ◌+◌, ◌-◌, ◌<◌, ◌≤◌, take}
use Rattle.market.specs.Lists.{Wrote}
use Rattle.market.specs.Meeting.{met, turn, repeated}
use Rattle.venue.specs.Reads.{market_of}
use Rattle.venue.specs.Turns.{pending_count, SameOrder}
use Rattle.venue.proofs.Turning.{going}
use Rattle.venue.proofs.state.Venue.meet.Given as goal

-- The whole meeting is what is still to come from here, with the events so far before it.
abbrev pub invariant-loop : goal.invariant-loop
invariant-loop g l =
    let number = l.initial.incoming.number in
    let new = l.initial.incoming.order in
    record {
      to_come : met g.K.Keeper.charge g.K.Keeper.REACH number new (market_of g.K.Keeper.sheet l.initial.self) ≡ repeated (l.end - l.counter) (turn g.K.Keeper.charge g.K.Keeper.REACH number new) (going (market_of g.K.Keeper.sheet l.self) l.incoming.rest (take l.list.told l.list.places.now));
      wrote : Wrote l.initial.list.places.now l.list.places.now 0 l.list.told (take l.list.told l.list.places.now);
      some_left : 0 < l.incoming.rest;
      few : l.list.told + pending_count (market_of g.K.Keeper.sheet l.self) ≤ pending_count (market_of g.K.Keeper.sheet l.initial.self);
      same_order : SameOrder l.initial.incoming l.incoming;
      same_list : l.list.places.ghost_name ≡ l.initial.list.places.ghost_name;
    }

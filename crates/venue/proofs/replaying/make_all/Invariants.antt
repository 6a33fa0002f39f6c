use Rattle.std.proofs.Common.{◌≡◌, length, drop}
use Rattle.runs.specs.Deeds.{market_at_end}
use Rattle.venue.specs.Reads.{market_of}
use Rattle.venue.specs.Replays.{made_with, list_at_end}
use Rattle.venue.proofs.replaying.make_all.Given as goal

-- The end from the start is the end from here, of the venue and of the list.
abbrev pub invariant-loop-call : goal.invariant-loop-call
invariant-loop-call g l =
    (market_at_end g.K.Keeper.charge g.K.Keeper.REACH (market_of g.K.Keeper.sheet l.initial.venue) (made_with (length l.initial.events) l.log)
    ≡ market_at_end g.K.Keeper.charge g.K.Keeper.REACH (market_of g.K.Keeper.sheet l.venue) (made_with (length l.initial.events) (drop l.call-index l.log)))
    × (list_at_end g.K.Keeper.charge g.K.Keeper.REACH (market_of g.K.Keeper.sheet l.initial.venue) (made_with (length l.initial.events) l.log) l.initial.events
    ≡ list_at_end g.K.Keeper.charge g.K.Keeper.REACH (market_of g.K.Keeper.sheet l.venue) (made_with (length l.initial.events) (drop l.call-index l.log)) l.events)

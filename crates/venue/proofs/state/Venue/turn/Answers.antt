use Rattle.std.proofs.Common.{sym, ap, ◌∙◌}
use Rattle.std.proofs.lemmas.Bool.{ne_eqb}
use Rattle.market.specs.Meeting.{opposite, is_hindered}
use Rattle.book.specs.Reads.{first_of}
use Rattle.venue.specs.Reads.{market_of}
use Rattle.venue.proofs.Meets.{turned_filled}
use Rattle.venue.proofs.state.Venue.turn.Goals as goal

pub returns-clause-turned : goal.returns-clause-turned
returns-clause-turned g c =
    let M = market_of g.K.Keeper.sheet c.args.self.now in
    let incoming = c.args.incoming.now in
    let new = incoming.order in
    let list = c.args.list.now in
    let first = sym c.in-Some.is ∙ c.first.ensures ∙ ap (λ s. first_of (M.rows s new.instrument)) c.opposite_of-opposite.ensures in
    let free = ap (is_hindered g.K.Keeper.charge g.K.Keeper.REACH M new) (sym c.min.ensures) ∙ sym c.is_hindered.ensures ∙ c.if-is_hindered.false in
    turned_filled g.K.Keeper.charge g.K.Keeper.REACH incoming.number new M incoming.rest (M.rows (opposite new.side) new.instrument) c.in-Some.pending first (sym c.is_apart_from.ensures ∙ c.if-is_apart_from.false) (ne_eqb new.member c.in-Some.pending.member c.if-incoming-pending.false) (market_of g.K.Keeper.sheet c.fill.new.self) c.fill.new.incoming.rest c.fill.result list.places.now c.fill.new.list.places.now list.told c.fill.new.list.told free c.fill.ensures.turned

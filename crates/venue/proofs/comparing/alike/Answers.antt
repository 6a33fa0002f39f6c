use Rattle.std.proofs.Common.{refl, arith}
use Rattle.std.proofs.lemmas.Bool.{false≢true}
use Rattle.venue.proofs.Listings.{alike_at, alike_by_places}
use Rattle.venue.proofs.comparing.alike.Goals as goal

pub returns-then-not-shows_the_same : goal.returns-then-not-shows_the_same
returns-then-not-shows_the_same c = (
  (λ e. absurd (false≢true e)),
  (λ alike. c.if-not-shows_the_same.ensures.1 (alike_at c.args.one.now c.args.other.now c.loop-place.place alike)),
)

pub returns : goal.returns
returns c = (
  (λ _. alike_by_places c.args.one.now c.args.other.now c.if-one-other.false (λ k h. c.loop-place.invariant k (omega arith))),
  (λ _. refl),
)

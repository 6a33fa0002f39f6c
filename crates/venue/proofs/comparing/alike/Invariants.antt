-- Below the place the two listings show the same.
use Rattle.std.proofs.Common.{◌≡◌, ℕ, ◌<◌, get_or}
use Rattle.venue.specs.Alike.{shown}
use Rattle.venue.proofs.Listings.{no_order}
use Rattle.venue.proofs.comparing.alike.Given as goal

abbrev pub invariant-loop-place : goal.invariant-loop-place
invariant-loop-place l = (k : ℕ) → k < l.place → shown (get_or l.one k no_order) ≡ shown (get_or l.other k no_order)

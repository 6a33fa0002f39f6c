-- The place of a number in a table, or the refusal of a number past it.
use Rattle.std.specs.Prelude.{◌≡◌, ℕ, ◌≤◌, Result, MatchResult}
use Rattle.margin.specs.declared.refusal.KeeperRefusal.{KeeperRefusal}
use Rattle.positions.specs.declared.places.Place.{Place}

abbrev pub IsPlaceOf : (count : ℕ) → ℕ → Result (Place count) KeeperRefusal → Type 0
IsPlaceOf count number r = MatchResult r (λ place. place.number ≡ number) (λ _. count ≤ number)

-- The code that a message begins with.
use Rattle.std.specs.Prelude.{◌≡◌, ◌≢◌, ℕ, Result, MatchResult}
use Rattle.wire.specs.declared.kind.Kind.{Kind}
use Rattle.wire.specs.declared.kind.Kind.TheVariants.{Place, Cancel, CancelAll}
use Rattle.wire.specs.declared.request.MessageRefusal.{MessageRefusal}
use Rattle.wire.specs.declared.request.MessageRefusal.TheVariants.{NotLegal}

abbrev pub code_of : Kind → ℕ
code_of Place = 1
code_of Cancel = 2
code_of CancelAll = 3

-- The kind with this code, or a refusal of a code that no kind has.
abbrev pub Decodes : ℕ → Result Kind MessageRefusal → Type 0
Decodes code r = MatchResult r (λ kind. code_of kind ≡ code) (λ refusal. (refusal ≡ NotLegal) × ((code ≢ 1) × ((code ≢ 2) × (code ≢ 3))))

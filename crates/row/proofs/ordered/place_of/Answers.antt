use Rattle.std.proofs.Common.{length, ◌∙◌, ap}
use Rattle.std.specs.Option.{unwrap_or}
use Rattle.row.proofs.Lists.{placed}
use Rattle.row.proofs.ordered.place_of.Goals as goal

pub returns-clause-place : goal.returns-clause-place
returns-clause-place g c =
    placed g.E.Precedence.test c.args.added.now c.args.entries.now c.unwrap_or.result
    (c.unwrap_or.ensures ∙ ap (λ p. unwrap_or p (length c.args.entries.now)) c.first_preceded.ensures)

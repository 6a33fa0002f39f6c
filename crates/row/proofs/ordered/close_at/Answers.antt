use Rattle.std.proofs.Common.{◌∙◌, arith}
use Rattle.row.proofs.Lists.{closed}
use Rattle.row.proofs.ordered.close_at.Goals as goal

pub returns : goal.returns
returns g c = c.copy_within.ensures.after ∙ closed c.args.row.now c.args.place c.args.n (omega arith) (omega arith)

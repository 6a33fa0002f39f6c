use Rattle.std.proofs.Common.{arith}
use Rattle.row.proofs.Lists.{opened}
use Rattle.row.proofs.ordered.open_at.Goals as goal

pub returns : goal.returns
returns g c = opened c.args.row.now c.args.place c.args.«end» c.args.entry c.rotate_right.new.self (omega arith) (omega arith) c.rotate_right.ensures.after

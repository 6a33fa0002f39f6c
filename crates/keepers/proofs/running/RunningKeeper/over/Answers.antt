use Rattle.std.proofs.Common.{sym, ◌∙◌}
use Rattle.keepers.proofs.KeptNeeds.{zero_at, fresh_need}
use Rattle.keepers.proofs.running.RunningKeeper.over.Goals as goal

pub invariant_of-result : goal.invariant_of-result
invariant_of-result c = record { up_to_date = λ m. zero_at 32 m ∙ sym (fresh_need c.args.table c.requires m) }

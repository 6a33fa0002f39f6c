use Rattle.std.proofs.Common.{◌∙◌}
use Rattle.keepers.proofs.KeptNeeds.{need_after_set_factor}
use Rattle.keepers.proofs.running.RunningKeeper.set_unused_factor.Goals as goal

pub invariant_of-self : goal.invariant_of-self
invariant_of-self c =
    record { up_to_date = λ m. c.args.self.now.up_to_date m ∙ need_after_set_factor c.args.self.now.table c.set_factor.new.self c.args.instrument c.args.factor c.set_factor.ensures.after m }

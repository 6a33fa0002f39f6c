use Rattle.runs.proofs.Soundness.{every_run_is_sound}
use Rattle.runs.proofs.every_run_is_sound.Goals as goal

pub returns : goal.returns
returns c = every_run_is_sound

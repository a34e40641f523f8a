use Rattle.jt_sleep_core.proofs.Kept.{step_keeps}
use Rattle.jt_sleep_core.proofs.laws.every_step_keeps_soundness.Goals as goal

pub returns : goal.returns
returns c = step_keeps

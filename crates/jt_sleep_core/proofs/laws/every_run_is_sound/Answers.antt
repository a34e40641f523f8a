use Rattle.jt_sleep_core.proofs.Reached.{reached_sound}
use Rattle.jt_sleep_core.proofs.laws.every_run_is_sound.Goals as goal

pub returns : goal.returns
returns c = reached_sound

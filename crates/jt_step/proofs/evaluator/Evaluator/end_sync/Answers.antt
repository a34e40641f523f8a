-- The tasks that were made in the part are waited for, from the first on.
use Rattle.std.proofs.Common.{refl}
use Rattle.jt_step.proofs.Syncs.{ends_sync}
use Rattle.jt_step.proofs.evaluator.Evaluator.end_sync.Goals as goal

pub returns : goal.returns
returns c = λ program. ends_sync program _ _ _ _ c.args.outer _ c.args.exit c.args.value (c.in_ok-mode.ensures program) c.replace-paths.ensures.value refl (λ rs. rw c.replace-paths.ensures.after refl) refl

-- The part of an `@sync` begins over its frame.
use Rattle.std.proofs.Common.{refl}
use Rattle.jt_step.proofs.Syncs.{begins_sync}
use Rattle.jt_step.proofs.evaluator.Evaluator.begin_sync.Goals as goal

pub returns : goal.returns
returns c = λ program. begins_sync program _ _ c.args.e (rw (← c.replace-outer.ensures.value) c.in_ok-push.ensures.items) (λ rs. rw (c.replace-outer.ensures.after, c.new.ensures) refl) refl

-- A task that isn't the main one has the seat of how it is made.
use Rattle.std.proofs.Common.{refl, sym, ◌∙◌}
use Rattle.jt_step.proofs.Starts.{not_main, not_bound}
use Rattle.jt_step.proofs.task.bound_of.Goals as goal

pub returns-in-Chunk : goal.returns-in-Chunk
returns-in-Chunk c = λ sizes parent. rw (not_main c.args.path.now (sym c.is_main.ensures ∙ c.if-is_main.false), c.in-Chunk.is) refl

pub returns-in_default : goal.returns-in_default
returns-in_default c = λ sizes parent. rw (not_main c.args.path.now (sym c.is_main.ensures ∙ c.if-is_main.false)) (sym (not_bound sizes c.args.how parent (λ k e. c.in_default.not-Chunk k e)))

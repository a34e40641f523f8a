-- The Spawn of a task as its first entry leaves a task that has not begun.
use Rattle.jt_conditions.proofs.CompletionLaw.{made}
use Rattle.jt_conditions.proofs.completion.Completion.new.Goals as goal

pub returns-clause-spawned : goal.returns-clause-spawned
returns-clause-spawned c = made

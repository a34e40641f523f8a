-- How a task's completion answers, by how far the task has come.
use Rattle.std.specs.Prelude.{Bool, true, false}
use Rattle.jt_base.specs.declared.entry.Ask.{Ask}
use Rattle.jt_base.specs.declared.entry.Ask.TheVariants.{Done, NotYet}
use Rattle.jt_base.specs.declared.operation.Op.{Op}
use Rattle.jt_base.specs.declared.operation.Op.TheVariants as op
use Rattle.jt_base.specs.declared.operation.Reply.TheVariants as reply
use Rattle.jt_conditions.specs.declared.completion.Completion.{Completion}
use Rattle.jt_conditions.specs.declared.completion.Completion.TheVariants.{Spawned, Running, Ended, Failed}

-- a task's own operations on itself, and what others ask of it
abbrev pub is_completion_op : Op → Bool
is_completion_op op.Begin = true
is_completion_op op.Yield = true
is_completion_op (op.End value) = true
is_completion_op (op.Fail fault) = true
is_completion_op (op.Fetch path) = true
is_completion_op (op.Wait path) = true
is_completion_op o = false

abbrev pub begin_answer : Completion → Ask
begin_answer Spawned = Done reply.Ok
begin_answer s = NotYet

abbrev pub begun : Completion → Completion
begun Spawned = Running
begun s = s

abbrev pub running_answer : Completion → Ask
running_answer Running = Done reply.Ok
running_answer s = NotYet

abbrev pub finished : Completion → Completion → Completion
finished outcome Running = outcome
finished outcome s = s

abbrev pub fetch_answer : Completion → Ask
fetch_answer (Ended value) = Done (reply.Val value)
fetch_answer Failed = Done reply.Failed
fetch_answer s = NotYet

abbrev pub wait_answer : Completion → Ask
wait_answer (Ended value) = Done reply.Ok
wait_answer Failed = Done reply.Failed
wait_answer s = NotYet

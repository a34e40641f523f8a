-- The evaluator goes on, and tells what comes next.
use Rattle.std.proofs.Common.{◌≡◌, [], map, refl, ap, ◌∙◌, append-nil, Some}
use Rattle.jt_base.specs.declared.operation.Op.{Op}
use Rattle.jt_base.specs.Coming.{op_of}
use Rattle.jt_base.specs.Jobs.{note_reply}
use Rattle.jt_program.specs.View.{program_plan}
use Rattle.jt_meaning.specs.Meaning.{task}
use Rattle.jt_step.specs.Laws.{goes_on, spawned_body, spawned_how, task_operation}
use Rattle.jt_step.specs.Task.{run_of, seen}
use Rattle.jt_step.specs.Tasks.{coming, said}
use Rattle.jt_step.proofs.Tells.{run_says, said_comes}
use Rattle.jt_step.proofs.task.TaskRun.advance.Goals as goal

pub returns-clause-ok : goal.returns-clause-ok
returns-clause-ok c =
    let f = c.if-state.false in
    let i = c.deref_mut-state.result.now in
    let holds = rw (← c.deref_mut-state.ensures.value) at c.self.invariant in
    let same = holds.same f [] ∙ ap (task (run_of i) i.path i.start) (append-nil (map note_reply i.log.items)) in
    let runs = rw (c.replace-mode.ensures.value, c.as_slice.ensures.value) at c.in_ok-mode.ensures in
    rw (← c.self.view_is, ← c.deref_mut-state.ensures.value) (record {
      kept = rw f refl;
      says = run_says (program_plan i.program.now) i.evaluator c.run_on.new.self i.mode c.in_ok-mode.mode (seen i) i.used c.in_ok-mode.used c.args.turns _ (holds.few f) refl same runs c.in_ok-advance.ensures;
    })

pub returns-clause-goes_on : goal.returns-clause-goes_on
returns-clause-goes_on c = λ op r tells can.
    let f = c.if-state.false in
    let i = c.deref_mut-state.result.now in
    let holds = rw (← c.deref_mut-state.ensures.value) at c.self.invariant in
    let same = holds.same f [] ∙ ap (task (run_of i) i.path i.start) (append-nil (map note_reply i.log.items)) in
    let runs = rw (c.replace-mode.ensures.value, c.as_slice.ensures.value) at c.in_ok-mode.ensures in
    let comes = said_comes (program_plan i.program.now) i.evaluator c.run_on.new.self i.mode c.in_ok-mode.mode (seen i) i.used c.in_ok-mode.used c.args.turns _ op same runs c.in_ok-advance.ensures tells in
    goes_on (run_of i) i.path i.start (map note_reply i.log.items) op r (ap op_of comes ∙ tells) can

pub returns-clause-asks_well : goal.returns-clause-asks_well
returns-clause-asks_well c =
    let f = c.if-state.false in
    let i = c.deref_mut-state.result.now in
    let holds = rw (← c.deref_mut-state.ensures.value) at c.self.invariant in
    let p = program_plan i.program.now in let log = map note_reply i.log.items in
    let same = holds.same f [] ∙ ap (task (run_of i) i.path i.start) (append-nil log) in
    let runs = rw (c.replace-mode.ensures.value, c.as_slice.ensures.value) at c.in_ok-mode.ensures in
    let comes : (op : Op) → op_of (said c.in_ok-advance.advance) ≡ Some op → coming (seen i) ≡ said c.in_ok-advance.advance =
    λ op tells. said_comes p i.evaluator c.run_on.new.self i.mode c.in_ok-mode.mode (seen i) i.used c.in_ok-mode.used c.args.turns _ op same runs c.in_ok-advance.ensures tells in
    record {
      asks = λ op tells. task_operation (run_of i) i.path i.start log op (ap op_of (comes op tells) ∙ tells);
      body = λ op child tells. spawned_body (run_of i) i.path i.start log op child (comes op (ap op_of tells) ∙ tells);
      how = λ op child tells. spawned_how (run_of i) i.path i.start log op child (comes op (ap op_of tells) ∙ tells);
    }

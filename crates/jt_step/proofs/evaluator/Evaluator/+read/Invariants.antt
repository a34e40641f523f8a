-- How deep parts may lie. In a loop what is left gives with the value so far what the whole gives.
use Rattle.std.proofs.Common.{◌≡◌, ◌+◌, ◌*◌, List, length}
use Rattle.jt_base.specs.declared.operation.Reply.{Reply}
use Rattle.jt_program.specs.Plan.{ProgramPlan}
use Rattle.jt_program.specs.View.{plan_of, plans}
use Rattle.jt_meaning.specs.Meaning.{go, run_choices, run_connection}
use Rattle.jt_meaning.specs.State.{bind}
use Rattle.jt_step.specs.Stack.{choices_in, comparisons_in, does, does_comparisons, does_operands, operands_in, state_of}
use Rattle.jt_step.proofs.evaluator.Evaluator.+read.Given as goal

abbrev pub decreases-read_within : goal.decreases-read_within
decreases-read_within l = 2 * l.depth

abbrev pub decreases-read_unary : goal.decreases-read_unary
decreases-read_unary l = 2 * l.depth + 1

abbrev pub decreases-read_operation : goal.decreases-read_operation
decreases-read_operation l = 2 * l.depth + 1

abbrev pub decreases-read_comparison : goal.decreases-read_comparison
decreases-read_comparison l = 2 * l.depth + 1

abbrev pub decreases-read_connection : goal.decreases-read_connection
decreases-read_connection l = 2 * l.depth + 1

abbrev pub decreases-read_branch : goal.decreases-read_branch
decreases-read_branch l = 2 * l.depth + 1

abbrev pub invariant-read_operation-operands : goal.invariant-read_operation-operands
invariant-read_operation-operands l = (program : ProgramPlan) (rs : List Reply) →
    does_operands program l.v (operands_in l.es) (state_of l.fn.self rs)
    ≡ bind (does program (plan_of l.fn.first) (state_of l.fn.self rs)) (λ v. does_operands program v (operands_in l.fn.es))

abbrev pub decreases-read_operation-operands : goal.decreases-read_operation-operands
decreases-read_operation-operands l = length l.es

abbrev pub invariant-read_comparison-comparisons : goal.invariant-read_comparison-comparisons
invariant-read_comparison-comparisons l = (program : ProgramPlan) (rs : List Reply) →
    does_comparisons program l.v (comparisons_in l.es) (state_of l.fn.self rs)
    ≡ bind (does program (plan_of l.fn.first) (state_of l.fn.self rs)) (λ v. does_comparisons program v (comparisons_in l.fn.es))

abbrev pub decreases-read_comparison-comparisons : goal.decreases-read_comparison-comparisons
decreases-read_comparison-comparisons l = length l.es

abbrev pub invariant-read_connection-operands : goal.invariant-read_connection-operands
invariant-read_connection-operands l = (program : ProgramPlan) (rs : List Reply) →
    run_connection program (go program) l.connective l.v (plans l.es) (state_of l.fn.self rs)
    ≡ bind (does program (plan_of l.fn.first) (state_of l.fn.self rs)) (λ v. run_connection program (go program) l.fn.connective v (plans l.fn.es))

abbrev pub decreases-read_connection-operands : goal.decreases-read_connection-operands
decreases-read_connection-operands l = length l.es

abbrev pub invariant-read_branch-arms : goal.invariant-read_branch-arms
invariant-read_branch-arms l = (program : ProgramPlan) (rs : List Reply) →
    run_choices program (go program) (choices_in l.arms) (does program (plan_of l.fn.otherwise)) (state_of l.fn.self rs)
    ≡ run_choices program (go program) (choices_in l.fn.arms) (does program (plan_of l.fn.otherwise)) (state_of l.fn.self rs)

abbrev pub decreases-read_branch-arms : goal.decreases-read_branch-arms
decreases-read_branch-arms l = length l.arms

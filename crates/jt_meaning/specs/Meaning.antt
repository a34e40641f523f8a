-- The meaning of a task: its tree is evaluated from the beginning, and takes one reply for each
-- operation in order. It recurses on the tree and on the turns that are left.
use Rattle.std.specs.Prelude.{ℕ, zero, suc, ◌+◌, ◌-◌, nat_lt, ℤ, pos, ◌+ℤ◌, List, [], ◌∷◌, ◌++◌, Option, Some, None, Bool, true, false, Ok, Err, map, length, replicate, slice_get, slice_set, int_le}
use Rattle.jt_base.specs.declared.value.Value.{Value}
use Rattle.jt_base.specs.declared.value.Value.TheVariants.{Int, Flag, Nothing, Task, Object}
use Rattle.jt_base.specs.declared.operation.Fault.{Fault}
use Rattle.jt_base.specs.declared.operation.Fault.TheVariants.{Method, Undefined, ForkTooDeep}
use Rattle.jt_base.specs.declared.operation.Op.TheVariants.{Begin, End, Fail, Spawn, Fetch, Wait, Yield, Print}
use Rattle.jt_base.specs.declared.operation.Reply.{Reply}
use Rattle.jt_base.specs.declared.operation.How.TheVariants.{Default}
use Rattle.jt_base.specs.Names.{most_indexes}
use Rattle.jt_syntax.specs.declared.operator.Connective.{Connective}
use Rattle.jt_syntax.specs.declared.operator.Connective.TheVariants as connective
use Rattle.jt_program.specs.declared.code.BuiltIn.{BuiltIn}
use Rattle.jt_program.specs.declared.code.BuiltIn.TheVariants as built_in
use Rattle.jt_program.specs.declared.code.Callee.{Callee}
use Rattle.jt_program.specs.declared.code.Callee.TheVariants as callee
use Rattle.jt_program.specs.Plan.{Plan, Plans, Operands, Comparisons, Choices, Pieces, BodyPlan, ProgramPlan}
use Rattle.jt_program.specs.Plan as plan
use Rattle.jt_meaning.specs.declared.start.Start.{Start}
use Rattle.jt_meaning.specs.Run.{Run}
use Rattle.jt_meaning.specs.State.{State, Out, Gave, Returned, Broke, Continued, Faulted, Asks, Unfit, TaskPart, bind, ask, turn, enter, renew, renew_with}
use Rattle.jt_meaning.specs.Values.{Valued, value_of, operated, unary_of, applied, compared_by, shown, shown_with, text_of, error_of}

-- a value, or a fault
abbrev pub gives : Valued → TaskPart
gives (Ok v) s = Gave v s
gives (Err f) s = Faulted f s

-- what is read where this stands
abbrev pub known : Option (Option Value) → TaskPart
known (Some (Some v)) s = Gave v s
known (Some None) s = Faulted Undefined s
known None s = Faulted Undefined s

abbrev pub either : Bool → TaskPart → TaskPart → TaskPart
either true a b s = a s
either false a b s = b s

abbrev pub assigned : ℕ → Value → TaskPart
assigned x v s = Gave v (record s { variables = slice_set s.variables x (Some v) })

abbrev pub defined : ℕ → Value → TaskPart
defined k v s = Gave v (record s { constants = slice_set s.constants k (Some v) })

-- the one or the other by a truth value
abbrev pub test : Value → TaskPart → TaskPart → TaskPart
test (Flag true) a b s = a s
test (Flag false) a b s = b s
test (Int n) a b s = Faulted Method s
test Nothing a b s = Faulted Method s
test (Task path) a b s = Faulted Method s
test (Object kind name) a b s = Faulted Method s

-- the next operand of `&&`, or of `||`, unless this one decides
abbrev pub proceed : Connective → Value → TaskPart → TaskPart
proceed connective.And v k = test v k (Gave (Flag false))
proceed connective.Or v k = test v (Gave (Flag true)) k

-- the next comparison of a chain, where this one holds
abbrev pub holds : Option Bool → TaskPart → TaskPart
holds (Some true) k s = k s
holds (Some false) k s = Gave (Flag false) s
holds None k s = Faulted Method s

-- what follows the body of a loop
abbrev pub looped : TaskPart → Out → Out
looped again (Gave v s) = again s
looped again (Continued s) = again s
looped again (Broke s) = Gave Nothing s
looped again (Returned v s) = Returned v s
looped again (Faulted f s) = Faulted f s
looped again (Asks op start s) = Asks op start s
looped again Unfit = Unfit

-- what follows the body of a function: the caller has its variables again
abbrev pub left : List (Option Value) → ℕ → Out → Out
left variables n (Gave v s) = Gave v (record s { variables = variables; open_calls = n })
left variables n (Returned v s) = Gave v (record s { variables = variables; open_calls = n })
left variables n (Broke s) = Faulted Method s
left variables n (Continued s) = Faulted Method s
left variables n (Faulted f s) = Faulted f s
left variables n (Asks op start s) = Asks op start s
left variables n Unfit = Unfit

-- the variables at the beginning of a body: the first have these values
abbrev pub variables_of : BodyPlan → List Value → List (Option Value)
variables_of b vs = map Some vs ++ replicate (b.variables - length vs) None

abbrev pub print_text : Option (List ℕ) → TaskPart
print_text (Some text) s = ask (Print text) None s
print_text None s = Faulted Method s

-- ---- tasks

-- the values of these variables, behind those of others; nothing where one of them has none
abbrev pub with_value : Option (Option Value) → (Value → Option (List Value)) → Option (List Value)
with_value (Some (Some v)) k = k v
with_value (Some None) k = None
with_value None k = None

abbrev pub values_taken : List Value → List (Option Value) → List ℕ → Option (List Value)
values_taken vs variables [] = Some vs
values_taken vs variables (x ∷ xs) = with_value (slice_get variables x) (λ v. values_taken (vs ++ v ∷ []) variables xs)

-- the values of all constants
abbrev pub values_known : List Value → List (Option Value) → Option (List Value)
values_known vs [] = Some vs
values_known vs (Some v ∷ os) = values_known (vs ++ v ∷ []) os
values_known vs (None ∷ os) = None

-- the start of a task that is made with this body, these captured values and these constants
abbrev pub child_start : ℕ → List ℕ → Option (List Value) → Option (List Value) → Option Start
child_start body stream (Some captured) (Some constants) =
    Some (record { code = body; captured = captured; constants = constants; home = false; stream = stream; how = Default })
child_start body stream (Some captured) None = None
child_start body stream None constants = None

-- the `@sync` round it waits for a task, or not
abbrev pub await : Bool → List ℕ → List (List ℕ) → List (List ℕ)
await true path paths = paths ++ path ∷ []
await false path paths = paths

-- makes the task of this path, unless what it takes has no value
abbrev pub fork_with : List ℕ → Bool → Option Start → TaskPart
fork_with path awaits None s = Faulted Undefined s
fork_with path awaits (Some start) s =
    ask (Spawn path start.how) (Some start) (record s { spawned = s.spawned + 1; awaited = await awaits path s.awaited })

-- the task of the next number, unless the path is full
abbrev pub fork : Option BodyPlan → ℕ → List ℕ → Bool → TaskPart
fork None body slots awaits s = Faulted Method s
fork (Some b) body slots awaits s =
    either (nat_lt (length s.path) most_indexes)
    (fork_with (s.path ++ s.spawned ∷ []) awaits (child_start body s.stream (values_taken [] s.variables slots) (values_known [] s.constants)))
    (Faulted ForkTooDeep) s

-- the first failed task counts
abbrev pub first_fault : Option Fault → Fault → Option Fault
first_fault None f = Some f
first_fault (Some g) f = Some g

-- a wait for a task has ended: its fault is kept, and the waits go on
abbrev pub noticed : Option Fault → (Option Fault → TaskPart) → Out → Out
noticed first k (Gave v s) = k first s
noticed first k (Faulted f s) = k (first_fault first f) s
noticed first k (Returned v s) = Returned v s
noticed first k (Broke s) = Broke s
noticed first k (Continued s) = Continued s
noticed first k (Asks op start s) = Asks op start s
noticed first k Unfit = Unfit

-- waits for each of these tasks in turn
abbrev pub wait_all : List (List ℕ) → Option Fault → (Option Fault → TaskPart) → TaskPart
wait_all [] first k s = k first s
wait_all (path ∷ paths) first k s = noticed first (λ f. wait_all paths f k) (ask (Wait path) None s)

-- fails where a task has failed
abbrev pub unless_failed : TaskPart → Option Fault → TaskPart
unless_failed k None s = k s
unless_failed k (Some f) s = Faulted f s

abbrev pub awaiting : List (List ℕ) → State → State
awaiting paths s = record s { awaited = paths }

-- what follows the part of an `@sync`: the waits for the tasks that were made in it. Outside, the tasks
-- that are waited for are these.
abbrev pub synced : List (List ℕ) → Out → Out
synced outer (Gave v s) = wait_all s.awaited None (unless_failed (Gave v)) (awaiting outer s)
synced outer (Returned v s) = wait_all s.awaited None (unless_failed (Returned v)) (awaiting outer s)
synced outer (Broke s) = Broke (awaiting outer s)
synced outer (Continued s) = Continued (awaiting outer s)
synced outer (Faulted f s) = Faulted f s
synced outer (Asks op start s) = Asks op start s
synced outer Unfit = Unfit

-- ---- calls and further turns

-- what is done once a turn is taken: a tree, or the turns of a loop over numbers from one of them on
pub data Later : Type 0 where
  whole : Plan → Later
  range : (first count : ℕ) (body : Plan) (i last : ℤ) → Later

-- the bounds of a loop
abbrev pub bounds : (ℤ → ℤ → TaskPart) → Value → Value → TaskPart
bounds k (Int a) (Int b) s = k a b s
bounds k v w s = Faulted Method s

-- the turns from i on of a loop whose body does this
abbrev pub turns_from : (Later → TaskPart) → ℕ → ℕ → Plan → TaskPart → ℤ → ℤ → TaskPart
turns_from lower first count b body i last =
    either (int_le i last)
    (turn (λ s. looped (lower (range first count b (i +ℤ pos 1) last)) (body (renew_with first count (Int i) s))))
    (Gave Nothing)

-- a call of a function of the script
abbrev pub call : (Later → TaskPart) → Option BodyPlan → List Value → TaskPart
call lower None vs s = Faulted Method s
call lower (Some b) vs s =
    enter (λ s2. left s.variables s.open_calls (lower (whole b.code) (record s2 { variables = variables_of b vs }))) s

-- a function of the language: an operation on a task, or a value
abbrev pub call_built_in : BuiltIn → List Value → TaskPart
call_built_in built_in.Fetch (Task path ∷ []) s = ask (Fetch path) None s
call_built_in built_in.Wait (Task path ∷ []) s = ask (Wait path) None s
call_built_in built_in.Yield [] s = ask Yield None s
call_built_in f vs s = gives (applied f vs) s

module _ (program : ProgramPlan) where
  abbrev pub call_of : (Later → TaskPart) → Callee → List Value → TaskPart
  call_of lower (callee.Function f) vs = call lower (slice_get program.functions f) vs
  call_of lower (callee.BuiltIn f) vs = call_built_in f vs

  abbrev mutual
    -- what a tree does, where calls and further turns are done by lower; operands, arguments and
    -- items from left to right
    pub run : (Later → TaskPart) → Plan → TaskPart
    run lower (plan.literal l) s = Gave (value_of l) s
    run lower (plan.variable x) s = known (slice_get s.variables x) s
    run lower (plan.constant k) s = known (slice_get s.constants k) s
    run lower (plan.assign x e) s = bind (run lower e s) (assigned x)
    run lower (plan.define k e) s = bind (run lower e s) (defined k)
    run lower (plan.unary o e) s = bind (run lower e s) (λ v. gives (unary_of o v))
    run lower (plan.operation e es) s = bind (run lower e s) (λ v. run_operands lower v es)
    run lower (plan.comparison e es) s = bind (run lower e s) (λ v. run_comparisons lower v es)
    run lower (plan.connection c e es) s = bind (run lower e s) (λ v. run_connection lower c v es)
    run lower (plan.branch cs e) s = run_choices lower cs (run lower e) s
    run lower (plan.block es) s = run_all lower Nothing es s
    run lower (plan.while first count c b) s =
        bind (run lower c s) (λ v. test v
        (turn (λ s. looped (lower (whole (plan.while first count c b))) (run lower b (renew first count s))))
        (Gave Nothing))
    run lower (plan.for first count a b e) s =
        bind (run lower a s) (λ v s. bind (run lower b s) (bounds (turns_from lower first count e (run lower e)) v))
    run lower (plan.call f es) s = run_arguments lower f [] es s
    run lower (plan.print ps) s = run_pieces lower (Some []) ps s
    run lower (plan.error t) s = Faulted (error_of (text_of t)) s
    run lower (plan.spawn body slots awaits) s = fork (slice_get program.tasks body) body slots awaits s
    run lower (plan.sync e) s = synced s.awaited (run lower e (awaiting [] s))
    run lower (plan.return e) s = bind (run lower e s) Returned
    run lower plan.break s = Broke s
    run lower plan.continue s = Continued s

    -- v: the value so far
    pub run_operands : (Later → TaskPart) → Value → Operands → TaskPart
    run_operands lower v plan.no_operands s = Gave v s
    run_operands lower v (plan.operand o e es) s =
        bind (run lower e s) (λ w s. bind (gives (operated o v w) s) (λ x. run_operands lower x es))

    -- v: the operand before
    pub run_comparisons : (Later → TaskPart) → Value → Comparisons → TaskPart
    run_comparisons lower v plan.no_comparisons s = Gave (Flag true) s
    run_comparisons lower v (plan.compared o e es) s =
        bind (run lower e s) (λ w. holds (compared_by o v w) (run_comparisons lower w es))

    -- v: the last operand
    pub run_connection : (Later → TaskPart) → Connective → Value → Plans → TaskPart
    run_connection lower c v plan.no_plans s = Gave v s
    run_connection lower c v (plan.plan e es) s =
        proceed c v (λ s. bind (run lower e s) (λ w. run_connection lower c w es)) s

    pub run_choices : (Later → TaskPart) → Choices → TaskPart → TaskPart
    run_choices lower plan.no_choices k s = k s
    run_choices lower (plan.choice c e cs) k s =
        bind (run lower c s) (λ v. test v (run lower e) (run_choices lower cs k))

    -- v: the value of the one before
    pub run_all : (Later → TaskPart) → Value → Plans → TaskPart
    run_all lower v plan.no_plans s = Gave v s
    run_all lower v (plan.plan e es) s = bind (run lower e s) (λ w. run_all lower w es)

    -- vs: the arguments so far
    pub run_arguments : (Later → TaskPart) → Callee → List Value → Plans → TaskPart
    run_arguments lower f vs plan.no_plans s = call_of lower f vs s
    run_arguments lower f vs (plan.plan e es) s = bind (run lower e s) (λ v. run_arguments lower f (vs ++ v ∷ []) es)

    -- text: that of the items so far; nothing where one of them has none
    pub run_pieces : (Later → TaskPart) → Option (List ℕ) → Pieces → TaskPart
    run_pieces lower text plan.no_pieces s = print_text text s
    run_pieces lower text (plan.value_piece e ps) s = bind (run lower e s) (λ v. run_pieces lower (shown_with text (shown v)) ps)
    run_pieces lower text (plan.text_piece t ps) s = run_pieces lower (shown_with text (text_of t)) ps s

  abbrev pub later : (Later → TaskPart) → Later → TaskPart
  later lower (whole e) = run lower e
  later lower (range first count e i last) = turns_from lower first count e (run lower e) i last

  -- what a tree does in fewer than n turns
  unfoldable pub meaning : ℕ → Later → TaskPart
  meaning zero l s = Unfit
  meaning (suc n) l s = later (meaning n) l s

  -- what a tree does
  unfoldable pub go : Later → TaskPart
  go l s = meaning (suc s.turns) l s

-- a task ends with a value, or fails
abbrev pub ended : Out → Out
ended (Gave v s) = ask (End v) None s
ended (Returned v s) = ask (End v) None s
ended (Broke s) = ask (Fail Method) None s
ended (Continued s) = ask (Fail Method) None s
ended (Faulted f s) = ask (Fail f) None s
ended (Asks op start s) = Asks op start s
ended Unfit = Unfit

abbrev pub task_of : ProgramPlan → Option BodyPlan → List Value → TaskPart
task_of program None captured s = Unfit
task_of program (Some b) captured s =
    bind (ask Begin None (record s { variables = variables_of b captured })) (λ v s. ended (go program (whole b.code) s))

-- the constants that a task begins with: those of its start, and no value for the others
abbrev pub constants_at : ℕ → List Value → List (Option Value)
constants_at count vs = map Some vs ++ replicate (count - length vs) None

-- where a task begins
abbrev pub beginning : ProgramPlan → ℕ → List ℕ → Start → List Reply → State
beginning program turns path start replies = record {
  path = path;
  variables = [];
  constants = constants_at program.constants start.constants;
  replies = replies;
  turns = turns;
  open_calls = 0;
  spawned = 0;
  awaited = [];
  stream = start.stream;
}

-- what a task of a run does from its beginning
abbrev pub task : Run → List ℕ → Start → List Reply → Out
task run path start replies =
    task_of run.program (slice_get run.program.tasks start.code) start.captured (beginning run.program run.limits.turns path start replies)

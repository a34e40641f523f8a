-- Small programs compute.
use Rattle.std.proofs.Common.{◌≡◌, ℕ, List, [], ◌∷◌, Option, Some, None, Bool, true, false, refl, replicate}
use Rattle.std.specs.Prelude.{pos, codes}
use Rattle.std.specs.Fmt.{digits}
use Rattle.std.specs.Str.{chars}
use Rattle.std.specs.Str.{is_utf8 as is_text}
use Rattle.std.specs.Str.Lossy.{utf8_valid_len}
use lib.Utf8.{encode}
use Rattle.jt_base.specs.declared.value.Value.{Value}
use Rattle.jt_base.specs.declared.value.Value.TheVariants.{Int, Nothing, Task}
use Rattle.jt_base.specs.declared.operation.Fault.TheVariants.{Method, Undefined, TurnLimit, ForkTooDeep, TaskFailed, Error}
use Rattle.jt_base.specs.declared.operation.How.TheVariants.{Default}
use Rattle.jt_base.specs.declared.operation.Op.TheVariants.{Begin, End, Fail, Spawn, Fetch, Wait, Yield, Print}
use Rattle.jt_base.specs.declared.operation.Reply.{Reply}
use Rattle.jt_base.specs.declared.operation.Reply.TheVariants as reply
use Rattle.jt_base.specs.Coming.{Next, Needs, Spawns, Over}
use Rattle.jt_num.specs.Wrapping.{wrapped}
use Rattle.jt_syntax.specs.declared.operator.ArithmeticOperator.TheVariants as arithmetic
use Rattle.jt_syntax.specs.declared.operator.ComparisonOperator.TheVariants as comparison
use Rattle.jt_program.specs.declared.code.BuiltIn.TheVariants as built_in
use Rattle.jt_program.specs.declared.code.Callee.TheVariants as callee
use Rattle.jt_program.specs.declared.code.Literal.TheVariants as literal
use Rattle.jt_program.specs.Plan.{Plan, Plans, BodyPlan, ProgramPlan}
use Rattle.jt_program.specs.Plan as plan
use Rattle.jt_meaning.specs.declared.start.Start.{Start}
use Rattle.jt_meaning.specs.Meaning.{meaning, go}
use Rattle.jt_meaning.specs.Values.{is_utf8}
use Rattle.jt_meaning.specs.Run.{Run}
use Rattle.jt_meaning.specs.Next.{next_operation}

-- ---- how programs are written here

abbrev number : ℕ → Plan
number n = plan.literal (literal.Int (pos n))

abbrev always : Plan
always = plan.literal (literal.Flag true)

abbrev nothing : Plan
nothing = plan.literal literal.Nothing

abbrev sum : Plan → Plan → Plan
sum a b = plan.operation a (plan.operand arithmetic.Add b plan.no_operands)

abbrev difference : Plan → Plan → Plan
difference a b = plan.operation a (plan.operand arithmetic.Subtract b plan.no_operands)

abbrev equals : Plan → Plan → Plan
equals a b = plan.comparison a (plan.compared comparison.Equal b plan.no_comparisons)

-- a < b < c
abbrev rising : Plan → Plan → Plan → Plan
rising a b c = plan.comparison a (plan.compared comparison.Less b (plan.compared comparison.Less c plan.no_comparisons))

abbrev when : Plan → Plan → Plan → Plan
when c a b = plan.branch (plan.choice c a plan.no_choices) b

abbrev show : Plan → Plan
show e = plan.print (plan.value_piece e plan.no_pieces)

abbrev in_order : List Plan → Plans
in_order [] = plan.no_plans
in_order (e ∷ es) = plan.plan e (in_order es)

abbrev block : List Plan → Plan
block es = plan.block (in_order es)

-- a body with so many variables
abbrev body : ℕ → Plan → BodyPlan
body n e = record { variables = n; code = e }

abbrev start : Start
start = record { code = 0; captured = []; constants = []; home = true; stream = replicate 5 0; how = Default }

-- a run of a program with at most so many turns
abbrev run_of : ProgramPlan → ℕ → Run
run_of program turns = record { program = program; sizes = record { default = 1; interactive = 0 }; limits = record { turns = turns; events = 1000 } }

-- what comes after so many replies `ok` in a program of these functions and this main task, with at
-- most so many turns
abbrev comes : List BodyPlan → BodyPlan → ℕ → ℕ → Option (Next Start)
comes functions main turns n =
    next_operation (run_of (record { constants = 0; functions = functions; tasks = main ∷ [] }) turns) [] start (replicate n reply.Ok)

abbrev many : ℕ
many = 100000000

-- ---- examples

first : comes [] (body 0 (show (sum (number 5) (number 7)))) many 0 ≡ Some (Needs Begin)
first = refl

prints : comes [] (body 0 (show (sum (number 5) (number 7)))) many 1 ≡ Some (Needs (Print (codes "12")))
unfolding go meaning wrapped digits
prints = refl

-- for i in 3:4; println(i); end
abbrev counts : BodyPlan
counts = body 0 (plan.for 0 1 (number 3) (number 4) (show (plan.variable 0)))

counts_three : comes [] counts many 1 ≡ Some (Needs (Print (codes "3")))
unfolding go meaning digits
counts_three = refl

counts_four : comes [] counts many 2 ≡ Some (Needs (Print (codes "4")))
unfolding go meaning digits
counts_four = refl

counts_ends : comes [] counts many 3 ≡ Some (Needs (End Nothing))
unfolding go meaning
counts_ends = refl

counts_over : comes [] counts many 4 ≡ Some Over
unfolding go meaning
counts_over = refl

-- a loop up to the greatest number ends
abbrev greatest : BodyPlan
greatest = body 0 (plan.for 0 1 (number 9223372036854775807) (number 9223372036854775807) (show (plan.variable 0)))

greatest_once : comes [] greatest many 1 ≡ Some (Needs (Print (codes "9223372036854775807")))
unfolding go meaning digits
greatest_once = refl

greatest_ends : comes [] greatest many 2 ≡ Some (Needs (End Nothing))
unfolding go meaning
greatest_ends = refl

-- x = 0; while true; x = x + 1; if x == 2; continue; end; if x == 4; break; end; println(x); end
abbrev skips : BodyPlan
skips = body 1 (block (plan.assign 0 (number 0)
    ∷ plan.while 1 0 always (block (plan.assign 0 (sum (plan.variable 0) (number 1))
    ∷ when (equals (plan.variable 0) (number 2)) plan.continue nothing
    ∷ when (equals (plan.variable 0) (number 4)) plan.break nothing
    ∷ show (plan.variable 0) ∷ []))
    ∷ []))

skips_none : comes [] skips many 1 ≡ Some (Needs (Print (codes "1")))
unfolding go meaning wrapped digits
skips_none = refl

skips_two : comes [] skips many 2 ≡ Some (Needs (Print (codes "3")))
unfolding go meaning wrapped digits
skips_two = refl

skips_end : comes [] skips many 3 ≡ Some (Needs (End Nothing))
unfolding go meaning wrapped
skips_end = refl

-- adds n, n - 1 and so on, and returns out of the loop once 2 is left
abbrev adds : BodyPlan
adds = body 2 (block (plan.assign 1 (number 0)
    ∷ plan.while 2 0 always (block (plan.assign 1 (sum (plan.variable 1) (plan.variable 0))
    ∷ plan.assign 0 (difference (plan.variable 0) (number 1))
    ∷ when (equals (plan.variable 0) (number 2)) (plan.return (plan.variable 1)) nothing ∷ []))
    ∷ number 7 ∷ []))

-- x = 8; println(adds(5)); x
abbrev caller : BodyPlan
caller = body 1 (block (plan.assign 0 (number 8) ∷ show (plan.call (callee.Function 0) (in_order (number 5 ∷ []))) ∷ plan.variable 0 ∷ []))

returns : comes (adds ∷ []) caller many 1 ≡ Some (Needs (Print (codes "12")))
unfolding go meaning wrapped digits
returns = refl

back : comes (adds ∷ []) caller many 2 ≡ Some (Needs (End (Int (pos 8))))
unfolding go meaning wrapped
back = refl

limited : comes [] (body 0 (plan.while 0 0 always nothing)) 2 1 ≡ Some (Needs (Fail TurnLimit))
unfolding go meaning
limited = refl

-- 1 < 1 < x, where x has no value
stops : comes [] (body 1 (show (rising (number 1) (number 1) (plan.variable 0)))) many 1 ≡ Some (Needs (Print (codes "false")))
unfolding go meaning
stops = refl

undefined : comes [] (body 1 (show (plan.variable 0))) many 1 ≡ Some (Needs (Fail Undefined))
unfolding go meaning
undefined = refl

-- for i in 1:2; if i == 1; y = 5; else; println(y); end; end: y is the loop's own
unset : comes [] (body 0 (plan.for 0 2 (number 1) (number 2) (when (equals (plan.variable 0) (number 1)) (plan.assign 1 (number 5)) (show (plan.variable 1))))) many 1 ≡ Some (Needs (Fail Undefined))
unfolding go meaning
unset = refl

-- error("no")
fails : comes [] (body 0 (plan.error (codes "no"))) many 1 ≡ Some (Needs (Fail (Error (codes "no"))))
unfolding go meaning is_utf8 utf8_valid_len is_text chars encode
fails = refl

-- println("n = ", 5)
in_a_row : comes [] (body 0 (plan.print (plan.text_piece (codes "n = ") (plan.value_piece (number 5) plan.no_pieces)))) many 1 ≡ Some (Needs (Print (codes "n = 5")))
unfolding go meaning is_utf8 utf8_valid_len is_text chars encode digits
in_a_row = refl

-- a number is no condition
unconditional : comes [] (body 0 (when (number 1) (number 2) (number 3))) many 1 ≡ Some (Needs (Fail Method))
unfolding go meaning
unconditional = refl

-- a constant has no value before its definition
constant : next_operation (run_of (record { constants = 1; functions = []; tasks = body 0 (block (plan.define 0 (plan.constant 0) ∷ [])) ∷ [] }) many) [] start (reply.Ok ∷ []) ≡ Some (Needs (Fail Undefined))
unfolding go meaning
constant = refl

-- a print is not replied that it failed
unfit : next_operation (run_of (record { constants = 0; functions = []; tasks = body 0 (show (number 5)) ∷ [] }) many) [] start (reply.Ok ∷ reply.Failed ∷ []) ≡ None
unfolding go meaning
unfit = refl

-- ---- tasks

-- what comes for a first task that is `main` and has this path, where the other tasks have this body;
-- it has replies behind that of its beginning
abbrev goes_on : List ℕ → BodyPlan → BodyPlan → List Reply → Option (Next Start)
goes_on path main other replies =
    next_operation (run_of (record { constants = 0; functions = []; tasks = main ∷ other ∷ [] }) many) path start (reply.Ok ∷ replies)

abbrev spawn : List ℕ → Bool → Plan
spawn slots awaits = plan.spawn 1 slots awaits

abbrev fetch : Plan → Plan
fetch e = plan.call (callee.BuiltIn built_in.Fetch) (in_order (e ∷ []))

-- the start of a task that is made with these values
abbrev child : List Value → Start
child values = record { code = 1; captured = values; constants = []; home = false; stream = replicate 5 0; how = Default }

-- x = 7; t = @spawn x + 5; println(fetch(t))
abbrev asks : BodyPlan
asks = body 2 (block (plan.assign 0 (number 7) ∷ plan.assign 1 (spawn (0 ∷ []) false) ∷ show (fetch (plan.variable 1)) ∷ []))

abbrev answer : BodyPlan
answer = body 1 (sum (plan.variable 0) (number 5))

asks_spawn : goes_on [] asks answer [] ≡ Some (Spawns (Spawn (0 ∷ []) Default) (child (Int (pos 7) ∷ [])))
unfolding go meaning
asks_spawn = refl

asks_fetch : goes_on [] asks answer (reply.Ok ∷ []) ≡ Some (Needs (Fetch (0 ∷ [])))
unfolding go meaning
asks_fetch = refl

asks_prints : goes_on [] asks answer (reply.Ok ∷ reply.Val (Int (pos 12)) ∷ []) ≡ Some (Needs (Print (codes "12")))
unfolding go meaning digits
asks_prints = refl

-- the child failed
asks_fails : goes_on [] asks answer (reply.Ok ∷ reply.Failed ∷ []) ≡ Some (Needs (Fail (TaskFailed (0 ∷ []))))
unfolding go meaning
asks_fails = refl

-- a fetch is not replied `ok`, and a spawn not that it failed
asks_unfit : goes_on [] asks answer (reply.Ok ∷ reply.Ok ∷ []) ≡ None
unfolding go meaning
asks_unfit = refl

spawn_unfit : goes_on [] asks answer (reply.Failed ∷ []) ≡ None
unfolding go meaning
spawn_unfit = refl

-- the child has the value that x had
answers : next_operation (run_of (record { constants = 0; functions = []; tasks = asks ∷ answer ∷ [] }) many) (0 ∷ []) (child (Int (pos 7) ∷ [])) (reply.Ok ∷ []) ≡ Some (Needs (End (Int (pos 12))))
unfolding go meaning wrapped
answers = refl

-- @sync begin @spawn ..; @spawn .. end
abbrev two : BodyPlan
two = body 0 (plan.sync (block (spawn [] true ∷ spawn [] true ∷ [])))

two_first : goes_on (3 ∷ []) two answer [] ≡ Some (Spawns (Spawn (3 ∷ 0 ∷ []) Default) (child []))
unfolding go meaning
two_first = refl

two_second : goes_on (3 ∷ []) two answer (reply.Ok ∷ []) ≡ Some (Spawns (Spawn (3 ∷ 1 ∷ []) Default) (child []))
unfolding go meaning
two_second = refl

two_waits : goes_on (3 ∷ []) two answer (reply.Ok ∷ reply.Ok ∷ []) ≡ Some (Needs (Wait (3 ∷ 0 ∷ [])))
unfolding go meaning
two_waits = refl

two_waits_on : goes_on (3 ∷ []) two answer (reply.Ok ∷ reply.Ok ∷ reply.Failed ∷ []) ≡ Some (Needs (Wait (3 ∷ 1 ∷ [])))
unfolding go meaning
two_waits_on = refl

two_fail : goes_on (3 ∷ []) two answer (reply.Ok ∷ reply.Ok ∷ reply.Failed ∷ reply.Failed ∷ []) ≡ Some (Needs (Fail (TaskFailed (3 ∷ 0 ∷ []))))
unfolding go meaning
two_fail = refl

two_fail_late : goes_on (3 ∷ []) two answer (reply.Ok ∷ reply.Ok ∷ reply.Ok ∷ reply.Failed ∷ []) ≡ Some (Needs (Fail (TaskFailed (3 ∷ 1 ∷ []))))
unfolding go meaning
two_fail_late = refl

two_end : goes_on (3 ∷ []) two answer (reply.Ok ∷ reply.Ok ∷ reply.Ok ∷ reply.Ok ∷ []) ≡ Some (Needs (End (Task (3 ∷ 1 ∷ []))))
unfolding go meaning
two_end = refl

-- a task that isn't awaited is not waited for
lone : goes_on [] (body 0 (plan.sync (spawn [] false))) answer (reply.Ok ∷ []) ≡ Some (Needs (End (Task (0 ∷ []))))
unfolding go meaning
lone = refl

-- a task out of an `@sync` is waited for at the end of the outer one
abbrev nested : BodyPlan
nested = body 0 (plan.sync (block (spawn [] true ∷ plan.sync (spawn [] true) ∷ spawn [] true ∷ [])))

nested_inner : goes_on [] nested answer (reply.Ok ∷ reply.Ok ∷ []) ≡ Some (Needs (Wait (1 ∷ [])))
unfolding go meaning
nested_inner = refl

nested_outer : goes_on [] nested answer (reply.Ok ∷ reply.Ok ∷ reply.Ok ∷ reply.Ok ∷ []) ≡ Some (Needs (Wait (0 ∷ [])))
unfolding go meaning
nested_outer = refl

nested_last : goes_on [] nested answer (reply.Ok ∷ reply.Ok ∷ reply.Ok ∷ reply.Ok ∷ reply.Ok ∷ []) ≡ Some (Needs (Wait (2 ∷ [])))
unfolding go meaning
nested_last = refl

-- @sync begin @spawn ..; return 3; end: what it returns comes behind the wait
abbrev leaves : BodyPlan
leaves = body 0 (plan.sync (block (spawn [] true ∷ plan.return (number 3) ∷ number 4 ∷ [])))

leaves_waits : goes_on [] leaves answer (reply.Ok ∷ []) ≡ Some (Needs (Wait (0 ∷ [])))
unfolding go meaning
leaves_waits = refl

leaves_ends : goes_on [] leaves answer (reply.Ok ∷ reply.Ok ∷ []) ≡ Some (Needs (End (Int (pos 3))))
unfolding go meaning
leaves_ends = refl

leaves_fails : goes_on [] leaves answer (reply.Ok ∷ reply.Failed ∷ []) ≡ Some (Needs (Fail (TaskFailed (0 ∷ []))))
unfolding go meaning
leaves_fails = refl

-- a path has room for 48 indexes
too_deep : goes_on (replicate 48 0) (body 0 (spawn [] false)) answer [] ≡ Some (Needs (Fail ForkTooDeep))
unfolding go meaning
too_deep = refl

deepest : goes_on (replicate 47 0) (body 0 (spawn [] false)) answer [] ≡ Some (Spawns (Spawn (replicate 48 0) Default) (child []))
unfolding go meaning
deepest = refl

-- what a task takes has a value
no_capture : goes_on [] (body 1 (spawn (0 ∷ []) false)) answer [] ≡ Some (Needs (Fail Undefined))
unfolding go meaning
no_capture = refl

-- wait(5)
no_task : goes_on [] (body 0 (plan.call (callee.BuiltIn built_in.Wait) (in_order (number 5 ∷ [])))) answer [] ≡ Some (Needs (Fail Method))
unfolding go meaning
no_task = refl

-- yield()
yields : goes_on [] (body 0 (plan.call (callee.BuiltIn built_in.Yield) plan.no_plans)) answer [] ≡ Some (Needs Yield)
unfolding go meaning
yields = refl

-- No part of a task gives a turn back.
use Rattle.std.proofs.Common.{◌≡◌, ℕ, zero, suc, ◌+◌, ◌≤◌, List, [], ◌∷◌, ◌++◌, Option, Some, None, Bool, true, false, refl, arith}
use Rattle.std.specs.Prelude.{ℤ, pos, ◌+ℤ◌, Ok, Err, length, slice_get, nat_lt, int_le}
use Rattle.jt_base.specs.declared.value.Value.{Value}
use Rattle.jt_base.specs.declared.value.Value.TheVariants.{Int, Flag, Nothing, Task, Object}
use Rattle.jt_base.specs.declared.operation.Op.{Op}
use Rattle.jt_base.specs.declared.operation.Op.TheVariants.{End, Fail, Spawn, Fetch, Wait, Yield, Print}
use Rattle.jt_base.specs.declared.operation.Fault.{Fault}
use Rattle.jt_base.specs.declared.operation.Fault.TheVariants.{Method}
use Rattle.jt_base.specs.Names.{most_indexes}
use Rattle.jt_base.specs.declared.operation.Reply.{Reply}
use Rattle.jt_base.specs.Limits.{most_calls}
use Rattle.jt_syntax.specs.declared.operator.Connective.{Connective}
use Rattle.jt_syntax.specs.declared.operator.Connective.TheVariants as connective
use Rattle.jt_program.specs.declared.code.BuiltIn.{BuiltIn}
use Rattle.jt_program.specs.declared.code.BuiltIn.TheVariants as built_in
use Rattle.jt_program.specs.declared.code.Callee.{Callee}
use Rattle.jt_program.specs.declared.code.Callee.TheVariants as callee
use Rattle.jt_program.specs.Plan.{Plan, Plans, Operands, Comparisons, Choices, Pieces, BodyPlan, ProgramPlan}
use Rattle.jt_program.specs.Plan as plan
use Rattle.jt_meaning.specs.declared.start.Start.{Start}
use Rattle.jt_meaning.specs.State as state
use Rattle.jt_meaning.specs.State.{State, Out, Gave, Returned, Broke, Continued, Faulted, Asks, Unfit, TaskPart, turns_of, bind, Given, given, answered, ask, ask_with, turn, turn_with, enter, enter_with, renew, renew_with}
use Rattle.jt_meaning.specs.Values.{Valued, operated, unary_of, applied, compared_by, shown, shown_with, text_of}
use Rattle.jt_meaning.specs.Meaning.{gives, known, test, proceed, holds, looped, left, variables_of, print_text, values_taken, values_known, child_start, await, fork_with, fork, first_fault, noticed, wait_all, unless_failed, awaiting, synced, Later, whole, range, either, bounds, turns_from, call, call_built_in, call_of, run, run_operands, run_comparisons, run_connection, run_choices, run_all, run_arguments, run_pieces, later, meaning, go, ended}

-- ---- what parts are put together by

pub bind_falls : (o : Out) (k : Value → TaskPart) (n : ℕ) → turns_of o ≤ n → ((v : Value) (s : State) → turns_of (k v s) ≤ s.turns) → turns_of (bind o k) ≤ n
bind_falls (Gave v s) k n h f = omega (arith, f v s)
bind_falls (Returned v s) k n h f = h
bind_falls (Broke s) k n h f = h
bind_falls (Continued s) k n h f = h
bind_falls (Faulted g s) k n h f = h
bind_falls (Asks op start s) k n h f = h
bind_falls Unfit k n h f = h

pub looped_falls : (o : Out) (k : TaskPart) (n : ℕ) → turns_of o ≤ n → ((s : State) → turns_of (k s) ≤ s.turns) → turns_of (looped k o) ≤ n
looped_falls (Gave v s) k n h f = omega (arith, f s)
looped_falls (Continued s) k n h f = omega (arith, f s)
looped_falls (Returned v s) k n h f = h
looped_falls (Broke s) k n h f = h
looped_falls (Faulted g s) k n h f = h
looped_falls (Asks op start s) k n h f = h
looped_falls Unfit k n h f = h

pub left_falls : (o : Out) (variables : List (Option Value)) (m n : ℕ) → turns_of o ≤ n → turns_of (left variables m o) ≤ n
left_falls (Gave v s) variables m n h = h
left_falls (Returned v s) variables m n h = h
left_falls (Broke s) variables m n h = h
left_falls (Continued s) variables m n h = h
left_falls (Faulted g s) variables m n h = h
left_falls (Asks op start s) variables m n h = h
left_falls Unfit variables m n h = h

pub known_falls : (o : Option (Option Value)) (s : State) → turns_of (known o s) ≤ s.turns
known_falls (Some (Some v)) s = omega arith
known_falls (Some None) s = omega arith
known_falls None s = omega arith

pub gives_falls : (r : Valued) (s : State) → turns_of (gives r s) ≤ s.turns
gives_falls (Ok v) s = omega arith
gives_falls (Err f) s = omega arith

pub answered_falls : (g : Given) (s : State) → turns_of (answered g s) ≤ s.turns
answered_falls (state.value v) s = omega arith
answered_falls (state.fault f) s = omega arith
answered_falls state.unfit s = omega arith

pub ask_falls : (op : Op) (start : Option Start) (s : State) (rs : List Reply) → turns_of (ask_with op start s rs) ≤ s.turns
ask_falls op start s [] = omega arith
ask_falls op start s (r ∷ rs) = answered_falls (given op r) (record s { replies = rs })

pub print_falls : (text : Option (List ℕ)) (s : State) → turns_of (print_text text s) ≤ s.turns
print_falls (Some text) s = ask_falls (Print text) None s s.replies
print_falls None s = omega arith

pub turn_le : (t : ℕ) (k : TaskPart) (s : State) → t ≡ s.turns → ((s : State) → turns_of (k s) ≤ s.turns) → turns_of (turn_with t k s) ≤ t
turn_le zero k s e f = omega arith
turn_le (suc t) k s e f = omega (arith, f (record s { turns = t }))

pub enter_le : (t : ℕ) (free : Bool) (k : TaskPart) (s : State) → t ≡ s.turns → ((s : State) → turns_of (k s) ≤ s.turns) → turns_of (enter_with t free k s) ≤ s.turns
enter_le zero free k s e f = omega arith
enter_le (suc t) false k s e f = omega arith
enter_le (suc t) true k s e f = omega (arith, f (record s { turns = t; open_calls = s.open_calls + 1 }))

pub test_falls : (v : Value) (a b : TaskPart) → ((s : State) → turns_of (a s) ≤ s.turns) → ((s : State) → turns_of (b s) ≤ s.turns) → (s : State) → turns_of (test v a b s) ≤ s.turns
test_falls (Flag true) a b f g s = f s
test_falls (Flag false) a b f g s = g s
test_falls (Int n) a b f g s = omega arith
test_falls Nothing a b f g s = omega arith
test_falls (Task path) a b f g s = omega arith
test_falls (Object kind name) a b f g s = omega arith

pub proceed_falls : (c : Connective) (v : Value) (k : TaskPart) → ((s : State) → turns_of (k s) ≤ s.turns) → (s : State) → turns_of (proceed c v k s) ≤ s.turns
proceed_falls connective.And v k f s = test_falls v k _ f (λ s. omega arith) s
proceed_falls connective.Or v k f s = test_falls v _ k (λ s. omega arith) f s

pub holds_falls : (o : Option Bool) (k : TaskPart) → ((s : State) → turns_of (k s) ≤ s.turns) → (s : State) → turns_of (holds o k s) ≤ s.turns
holds_falls (Some true) k f s = f s
holds_falls (Some false) k f s = omega arith
holds_falls None k f s = omega arith

pub either_falls : (x : Bool) (a b : TaskPart) → ((s : State) → turns_of (a s) ≤ s.turns) → ((s : State) → turns_of (b s) ≤ s.turns) → (s : State) → turns_of (either x a b s) ≤ s.turns
either_falls true a b f g s = f s
either_falls false a b f g s = g s

pub bounds_falls : (k : ℤ → ℤ → TaskPart) → ((a b : ℤ) (s : State) → turns_of (k a b s) ≤ s.turns) → (v w : Value) (s : State) → turns_of (bounds k v w s) ≤ s.turns
bounds_falls k f (Int a) (Int b) s = f a b s
bounds_falls k f v w s = omega arith

-- ---- tasks

pub fork_with_falls : (path : List ℕ) (awaits : Bool) (start : Option Start) (s : State) → turns_of (fork_with path awaits start s) ≤ s.turns
fork_with_falls path awaits None s = omega arith
fork_with_falls path awaits (Some start) s =
    ask_falls (Spawn path start.how) (Some start) (record s { spawned = s.spawned + 1; awaited = await awaits path s.awaited }) s.replies

pub fork_falls : (o : Option BodyPlan) (body : ℕ) (slots : List ℕ) (awaits : Bool) (s : State) → turns_of (fork o body slots awaits s) ≤ s.turns
fork_falls None body slots awaits s = omega arith
fork_falls (Some b) body slots awaits s =
    either_falls (nat_lt (length s.path) most_indexes) _ _
    (fork_with_falls (s.path ++ s.spawned ∷ []) awaits (child_start body s.stream (values_taken [] s.variables slots) (values_known [] s.constants)))
    (λ s. omega arith) s

pub noticed_falls : (first : Option Fault) (k : Option Fault → TaskPart) (o : Out) (n : ℕ) → turns_of o ≤ n → ((f : Option Fault) (s : State) → turns_of (k f s) ≤ s.turns) → turns_of (noticed first k o) ≤ n
noticed_falls first k (Gave v s) n h f = omega (arith, f first s)
noticed_falls first k (Faulted q s) n h f = omega (arith, f (first_fault first q) s)
noticed_falls first k (Returned v s) n h f = h
noticed_falls first k (Broke s) n h f = h
noticed_falls first k (Continued s) n h f = h
noticed_falls first k (Asks op start s) n h f = h
noticed_falls first k Unfit n h f = h

pub waits_fall : (paths : List (List ℕ)) (first : Option Fault) (k : Option Fault → TaskPart) (s : State) → ((f : Option Fault) (s : State) → turns_of (k f s) ≤ s.turns) → turns_of (wait_all paths first k s) ≤ s.turns
waits_fall [] first k s f = f first s
waits_fall (path ∷ paths) first k s f =
    noticed_falls first (λ f. wait_all paths f k) (ask (Wait path) None s) s.turns (ask_falls (Wait path) None s s.replies) (λ g s. waits_fall paths g k s f)

pub unless_falls : (k : TaskPart) (o : Option Fault) (s : State) → ((s : State) → turns_of (k s) ≤ s.turns) → turns_of (unless_failed k o s) ≤ s.turns
unless_falls k None s f = f s
unless_falls k (Some g) s f = omega arith

pub synced_falls : (outer : List (List ℕ)) (o : Out) (n : ℕ) → turns_of o ≤ n → turns_of (synced outer o) ≤ n
synced_falls outer (Gave v s) n h =
    omega (arith, waits_fall s.awaited None (unless_failed (Gave v)) (awaiting outer s) (λ f s. unless_falls (Gave v) f s (λ s. omega arith)))
synced_falls outer (Returned v s) n h =
    omega (arith, waits_fall s.awaited None (unless_failed (Returned v)) (awaiting outer s) (λ f s. unless_falls (Returned v) f s (λ s. omega arith)))
synced_falls outer (Broke s) n h = h
synced_falls outer (Continued s) n h = h
synced_falls outer (Faulted f s) n h = h
synced_falls outer (Asks op start s) n h = h
synced_falls outer Unfit n h = h

pub built_in_falls : (f : BuiltIn) (vs : List Value) (s : State) → turns_of (call_built_in f vs s) ≤ s.turns
built_in_falls built_in.Fetch (Task path ∷ []) s = ask_falls (Fetch path) None s s.replies
built_in_falls built_in.Wait (Task path ∷ []) s = ask_falls (Wait path) None s s.replies
built_in_falls built_in.Yield [] s = ask_falls Yield None s s.replies
built_in_falls f vs s = gives_falls (applied f vs) s

-- ---- trees, where calls and further turns are done by lower

-- it gives no turn back
pub record TurnsFall (lower : Later → TaskPart) : Type 0 where
  pub by : (l : Later) (s : State) → turns_of (lower l s) ≤ s.turns

pub from_falls : (lower : Later → TaskPart) (first count : ℕ) (b : Plan) (body : TaskPart) → TurnsFall lower → ((s : State) → turns_of (body s) ≤ s.turns) → (i last : ℤ) (s : State) → turns_of (turns_from lower first count b body i last s) ≤ s.turns
from_falls lower first count b body f g i last s =
    either_falls (int_le i last) _ _
    (λ s. turn_le s.turns _ s refl (λ s. looped_falls (body (renew_with first count (Int i) s)) _ _ (g (renew_with first count (Int i) s)) (f.by (range first count b (i +ℤ pos 1) last))))
    (λ s. omega arith) s

pub call_falls : (lower : Later → TaskPart) (o : Option BodyPlan) (vs : List Value) (s : State) → TurnsFall lower → turns_of (call lower o vs s) ≤ s.turns
call_falls lower None vs s f = omega arith
call_falls lower (Some b) vs s f =
    enter_le s.turns (nat_lt s.open_calls most_calls) _ s refl
    (λ s2. left_falls (lower (whole b.code) (record s2 { variables = variables_of b vs })) _ _ s2.turns (f.by (whole b.code) (record s2 { variables = variables_of b vs })))

module _ (program : ProgramPlan) (lower : Later → TaskPart) (f : TurnsFall lower) where
  pub call_of_falls : (c : Callee) (vs : List Value) (s : State) → turns_of (call_of program lower c vs s) ≤ s.turns
  call_of_falls (callee.Function n) vs s = call_falls lower (slice_get program.functions n) vs s f
  call_of_falls (callee.BuiltIn g) vs s = built_in_falls g vs s

  mutual
    pub run_falls : (e : Plan) (s : State) → turns_of (run program lower e s) ≤ s.turns
    run_falls (plan.literal l) s = omega arith
    run_falls (plan.variable x) s = known_falls (slice_get s.variables x) s
    run_falls (plan.constant k) s = known_falls (slice_get s.constants k) s
    run_falls (plan.assign x e) s = bind_falls (run program lower e s) _ _ (run_falls e s) (λ v s. omega arith)
    run_falls (plan.define k e) s = bind_falls (run program lower e s) _ _ (run_falls e s) (λ v s. omega arith)
    run_falls (plan.unary o e) s = bind_falls (run program lower e s) _ _ (run_falls e s) (λ v. gives_falls (unary_of o v))
    run_falls (plan.operation e es) s = bind_falls (run program lower e s) _ _ (run_falls e s) (λ v. operands_falls v es)
    run_falls (plan.comparison e es) s = bind_falls (run program lower e s) _ _ (run_falls e s) (λ v. comparisons_falls v es)
    run_falls (plan.connection c e es) s = bind_falls (run program lower e s) _ _ (run_falls e s) (λ v. connection_falls c v es)
    run_falls (plan.branch cs e) s = choices_falls cs _ (run_falls e) s
    run_falls (plan.block es) s = all_falls Nothing es s
    run_falls (plan.while first count c b) s =
        bind_falls (run program lower c s) _ _ (run_falls c s) (λ v. test_falls v _ _
        (λ s. turn_le s.turns _ s refl (λ s. looped_falls (run program lower b (renew first count s)) _ _ (run_falls b (renew first count s)) (f.by (whole (plan.while first count c b)))))
        (λ s. omega arith))
    run_falls (plan.for first count a b e) s =
        bind_falls (run program lower a s) _ _ (run_falls a s) (λ v s. bind_falls (run program lower b s) _ _ (run_falls b s) (bounds_falls _ (from_falls lower first count e (run program lower e) f (run_falls e)) v))
    run_falls (plan.call c es) s = arguments_falls c [] es s
    run_falls (plan.print ps) s = pieces_falls (Some []) ps s
    run_falls (plan.error t) s = omega arith
    run_falls (plan.spawn b xs awaits) s = fork_falls (slice_get program.tasks b) b xs awaits s
    run_falls (plan.sync e) s = synced_falls s.awaited (run program lower e (awaiting [] s)) _ (run_falls e (awaiting [] s))
    run_falls (plan.return e) s = bind_falls (run program lower e s) _ _ (run_falls e s) (λ v s. omega arith)
    run_falls plan.break s = omega arith
    run_falls plan.continue s = omega arith

    pub operands_falls : (v : Value) (es : Operands) (s : State) → turns_of (run_operands program lower v es s) ≤ s.turns
    operands_falls v plan.no_operands s = omega arith
    operands_falls v (plan.operand o e es) s =
        bind_falls (run program lower e s) _ _ (run_falls e s) (λ w s. bind_falls (gives (operated o v w) s) _ _ (gives_falls (operated o v w) s) (λ x. operands_falls x es))

    pub comparisons_falls : (v : Value) (es : Comparisons) (s : State) → turns_of (run_comparisons program lower v es s) ≤ s.turns
    comparisons_falls v plan.no_comparisons s = omega arith
    comparisons_falls v (plan.compared o e es) s =
        bind_falls (run program lower e s) _ _ (run_falls e s) (λ w. holds_falls (compared_by o v w) _ (comparisons_falls w es))

    pub connection_falls : (c : Connective) (v : Value) (es : Plans) (s : State) → turns_of (run_connection program lower c v es s) ≤ s.turns
    connection_falls c v plan.no_plans s = omega arith
    connection_falls c v (plan.plan e es) s =
        proceed_falls c v _ (λ s. bind_falls (run program lower e s) _ _ (run_falls e s) (λ w. connection_falls c w es)) s

    pub choices_falls : (cs : Choices) (k : TaskPart) → ((s : State) → turns_of (k s) ≤ s.turns) → (s : State) → turns_of (run_choices program lower cs k s) ≤ s.turns
    choices_falls plan.no_choices k g s = g s
    choices_falls (plan.choice c e cs) k g s =
        bind_falls (run program lower c s) _ _ (run_falls c s) (λ v. test_falls v _ _ (run_falls e) (choices_falls cs k g))

    pub all_falls : (v : Value) (es : Plans) (s : State) → turns_of (run_all program lower v es s) ≤ s.turns
    all_falls v plan.no_plans s = omega arith
    all_falls v (plan.plan e es) s = bind_falls (run program lower e s) _ _ (run_falls e s) (λ w. all_falls w es)

    pub arguments_falls : (c : Callee) (vs : List Value) (es : Plans) (s : State) → turns_of (run_arguments program lower c vs es s) ≤ s.turns
    arguments_falls c vs plan.no_plans s = call_of_falls c vs s
    arguments_falls c vs (plan.plan e es) s = bind_falls (run program lower e s) _ _ (run_falls e s) (λ v. arguments_falls c (vs ++ v ∷ []) es)

    pub pieces_falls : (text : Option (List ℕ)) (ps : Pieces) (s : State) → turns_of (run_pieces program lower text ps s) ≤ s.turns
    pieces_falls text plan.no_pieces s = print_falls text s
    pieces_falls text (plan.value_piece e ps) s = bind_falls (run program lower e s) _ _ (run_falls e s) (λ v. pieces_falls (shown_with text (shown v)) ps)
    pieces_falls text (plan.text_piece t ps) s = pieces_falls (shown_with text (text_of t)) ps s

  pub later_falls : (l : Later) (s : State) → turns_of (later program lower l s) ≤ s.turns
  later_falls (whole e) s = run_falls e s
  later_falls (range first count e i last) s = from_falls lower first count e (run program lower e) f (run_falls e) i last s

module _ (program : ProgramPlan) where
  pub meaning_falls : (n : ℕ) → TurnsFall (meaning program n)
  unfolding meaning
  meaning_falls zero = record { by = λ l s. omega arith }
  meaning_falls (suc n) = record { by = later_falls program (meaning program n) (meaning_falls n) }

  pub go_falls : TurnsFall (go program)
  unfolding go
  go_falls = record { by = λ l s. (meaning_falls (suc s.turns)).by l s }

-- ---- a task's end

pub ended_falls : (o : Out) (n : ℕ) → turns_of o ≤ n → turns_of (ended o) ≤ n
ended_falls (Gave v s) n h = omega (arith, ask_falls (End v) None s s.replies)
ended_falls (Returned v s) n h = omega (arith, ask_falls (End v) None s s.replies)
ended_falls (Broke s) n h = omega (arith, ask_falls (Fail Method) None s s.replies)
ended_falls (Continued s) n h = omega (arith, ask_falls (Fail Method) None s s.replies)
ended_falls (Faulted f s) n h = omega (arith, ask_falls (Fail f) None s s.replies)
ended_falls (Asks op start s) n h = h
ended_falls Unfit n h = h

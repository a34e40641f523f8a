-- What is left to do, in the terms of the meaning.
use Rattle.std.specs.Prelude.{◌≡◌, ℕ, zero, suc, ◌+◌, ◌<◌, ◌≤◌, ◌&&◌, pos, ◌+ℤ◌, List, [], ◌∷◌, ◌++◌, Option, Some, None, Bool, true, false, nat_lt, slice_get, map, drop, length}
use denote.Bor.{Bor}
use Rattle.jt_base.specs.declared.value.Value.{Value}
use Rattle.jt_base.specs.declared.value.Value.TheVariants.{Int, Nothing}
use Rattle.jt_base.specs.declared.operation.Fault.{Fault}
use Rattle.jt_base.specs.declared.operation.Fault.TheVariants.{Method, TurnLimit, StackLimit}
use Rattle.jt_base.specs.declared.operation.Op.TheVariants as op
use Rattle.jt_base.specs.declared.operation.Reply.{Reply}
use Rattle.jt_base.specs.declared.operation.Reply.TheVariants as reply
use Rattle.jt_base.specs.declared.entry.Note.{Note}
use Rattle.jt_base.specs.Jobs.{note_reply}
use Rattle.jt_base.specs.Limits.{most_calls}
use Rattle.jt_program.specs.declared.code.Code.{Code}
use Rattle.jt_program.specs.declared.code.Arm.{Arm}
use Rattle.jt_program.specs.declared.code.Piece.{Piece}
use Rattle.jt_syntax.specs.declared.operator.ArithmeticOperator.{ArithmeticOperator}
use Rattle.jt_syntax.specs.declared.operator.ComparisonOperator.{ComparisonOperator}
use Rattle.jt_program.specs.Plan.{Plan, Plans, Operands, Comparisons, Choices, Pieces, BodyPlan, ProgramPlan}
use Rattle.jt_program.specs.Plan as plan
use Rattle.jt_program.specs.View.{plan_of, arm_plan, piece_plan, plans, operand_plan, operands_of, comparisons_of, choices_of, pieces_of}
use Rattle.jt_meaning.specs.State.{State, Out, Gave, Returned, Broke, Continued, Faulted, Unfit, TaskPart, bind, ask, turn, renew, renew_with, Given, given}
use Rattle.jt_meaning.specs.State as state
use Rattle.jt_meaning.specs.Values.{operated, unary_of, compared_by, shown, shown_with}
use Rattle.jt_meaning.specs.Meaning.{gives, synced, noticed, wait_all, unless_failed, assigned, defined, test, holds, looped, left, Later, whole, range, bounds, turns_from, call, run, run_operands, run_comparisons, run_connection, run_choices, run_all, run_arguments, run_pieces, go, ended}
use Rattle.jt_step.specs.declared.frame.Frame.{Frame}
use Rattle.jt_step.specs.declared.frame.Frame.TheVariants as frame
use Rattle.jt_step.specs.declared.frame.Exit.{Exit}
use Rattle.jt_step.specs.declared.frame.Exit.TheVariants as exit
use Rattle.jt_step.specs.declared.frame.Loop.{Loop}
use Rattle.jt_step.specs.declared.frame.Loop.TheVariants as loop
use Rattle.jt_step.specs.declared.evaluator.Evaluator.{Evaluator}
use Rattle.jt_step.specs.declared.mode.Mode.{Mode}
use Rattle.jt_step.specs.declared.mode.Mode.TheVariants as mode

-- the state of an evaluator before these replies
abbrev pub state_of : Evaluator → List Reply → State
state_of m rs = record {
  path = m.path;
  variables = m.variables;
  constants = m.constants;
  replies = rs;
  turns = m.turns;
  open_calls = m.open_calls;
  spawned = m.spawned;
  awaited = m.awaited;
  stream = m.stream;
}

-- the further turns of a loop once the body has ended
abbrev pub later_of : Loop → Later
later_of (loop.While first count c b) = whole (plan.while first count (plan_of c.now) (plan_of b.now))
later_of (loop.Range first count b i last) = range first count (plan_of b.now) (i +ℤ pos 1) last

-- how a part ended
abbrev pub exits : Exit → Value → TaskPart
exits exit.Value v s = Gave v s
exits exit.Return v s = Returned v s

-- the plain data of what stands in a slice
abbrev pub operands_in : List (ArithmeticOperator × Code) → Operands
operands_in es = operands_of (map operand_plan es)

abbrev pub comparisons_in : List (ComparisonOperator × Code) → Comparisons
comparisons_in es = comparisons_of (map operand_plan es)

abbrev pub choices_in : List Arm → Choices
choices_in arms = choices_of (map arm_plan arms)

abbrev pub pieces_in : List Piece → Pieces
pieces_in ps = pieces_of (map piece_plan ps)

module _ (program : ProgramPlan) where
  -- a tree, by what its parts do
  abbrev pub does : Plan → TaskPart
  does = run program (go program)

  abbrev pub does_operands : Value → Operands → TaskPart
  does_operands = run_operands program (go program)

  abbrev pub does_comparisons : Value → Comparisons → TaskPart
  does_comparisons = run_comparisons program (go program)

  -- the turn of a loop that begins next
  abbrev pub again : Loop → TaskPart
  again (loop.While first count c b) = turn (λ s. looped (go program (later_of (loop.While first count c b))) (does (plan_of b.now) (renew first count s)))
  again (loop.Range first count b i last) = turn (λ s. looped (go program (later_of (loop.Range first count b i last))) (does (plan_of b.now) (renew_with first count (Int i) s)))

  -- a call that begins next
  abbrev pub calls : ℕ → List Value → TaskPart
  calls f = call (go program) (slice_get program.functions f)

  -- what a frame makes of how its part ends
  abbrev pub after : Frame → Out → Out
  after (frame.Assign x) o = bind o (assigned x)
  after (frame.Define k) o = bind o (defined k)
  after (frame.Unary u) o = bind o (λ v. gives (unary_of u v))
  after (frame.Operands es) o = bind o (λ v. does_operands v (operands_in es.now))
  after (frame.Operand b v es) o = bind o (λ w s. bind (gives (operated b v w) s) (λ x. does_operands x (operands_in es.now)))
  after (frame.Comparisons es) o = bind o (λ v. does_comparisons v (comparisons_in es.now))
  after (frame.Compared c v es) o = bind o (λ w. holds (compared_by c v w) (does_comparisons w (comparisons_in es.now)))
  after (frame.Connection c es) o = bind o (λ v. run_connection program (go program) c v (plans es.now))
  after (frame.Choice e arms otherwise) o = bind o (λ v. test v (does (plan_of e.now)) (run_choices program (go program) (choices_in arms.now) (does (plan_of otherwise.now))))
  after (frame.Rest es) o = bind o (λ v. run_all program (go program) v (plans es.now))
  after (frame.Condition first count c b) o = bind o (λ v. test v (again (loop.While first count c b)) (Gave Nothing))
  after (frame.Low first count high b) o = bind o (λ v s. bind (does (plan_of high.now) s) (bounds (turns_from (go program) first count (plan_of b.now) (does (plan_of b.now))) v))
  after (frame.High first count low b) o = bind o (bounds (turns_from (go program) first count (plan_of b.now) (does (plan_of b.now))) low)
  after (frame.Loop l) o = looped (go program (later_of l)) o
  after (frame.Arguments f es vs) o = bind o (λ v. run_arguments program (go program) f (vs ++ v ∷ []) (plans es.now))
  after (frame.Pieces ps text) o = bind o (λ v. run_pieces program (go program) (shown_with text (shown v)) (pieces_in ps.now))
  after (frame.Call variables n) o = left variables n o
  after (frame.Sync outer) o = synced outer o
  after (frame.Waiting w) o = noticed w.fault (λ f. wait_all (drop w.next w.paths) f (unless_failed (exits w.exit w.value))) o
  after frame.Return o = bind o Returned

  -- the frames in order, the last one first
  abbrev pub through : List Frame → Out → Out
  through [] o = o
  through (f ∷ fs) o = after f (through fs o)

  -- the same up to the task's end
  abbrev pub resume : List Frame → Out → Out
  resume fs o = ended (through fs o)

  -- what is left to do at a mode, with these frames
  abbrev pub doing : List Frame → Mode → TaskPart
  doing fs (mode.Begins e) s = bind (ask op.Begin None s) (λ v s. resume fs (go program (whole (plan_of e.now)) s))
  doing fs (mode.Eval e) s = resume fs (does (plan_of e.now) s)
  doing fs (mode.Gave v) s = resume fs (Gave v s)
  doing fs (mode.Returned v) s = resume fs (Returned v s)
  doing fs mode.Broke s = resume fs (Broke s)
  doing fs mode.Continued s = resume fs (Continued s)
  doing fs (mode.Faulted f) s = resume fs (Faulted f s)
  doing fs (mode.Enter f vs) s = resume fs (calls f vs s)
  doing fs (mode.Again l) s = resume fs (again l s)
  doing fs (mode.Waits o start) s = resume fs (ask o start s)
  doing fs (mode.Ending v) s = ask (op.End v) None s
  doing fs (mode.Failing f) s = ask (op.Fail f) None s
  doing fs mode.Over s = Gave Nothing s
  doing fs mode.Unfit s = Unfit

  -- what is left to do, before these replies
  abbrev pub at : Evaluator → Mode → List Reply → Out
  at m md rs = doing m.frames.items md (state_of m rs)

-- ---- how much is left to do before the next turn

abbrev mutual
  pub weight : Plan → ℕ
  weight (plan.literal l) = 2
  weight (plan.variable x) = 2
  weight (plan.constant k) = 2
  weight (plan.assign x e) = weight e + 2
  weight (plan.define k e) = weight e + 2
  weight (plan.unary o e) = weight e + 2
  weight (plan.operation e es) = weight e + operands_weight es + 1
  weight (plan.comparison e es) = weight e + comparisons_weight es + 1
  weight (plan.connection c e es) = weight e + plans_weight es + 1
  weight (plan.branch cs e) = choices_weight cs + weight e + 1
  weight (plan.block es) = plans_weight es + 1
  weight (plan.while first count c b) = weight c + 4
  weight (plan.for first count a b e) = weight a + weight b + 6
  weight (plan.call f es) = plans_weight es + 1
  weight (plan.print ps) = pieces_weight ps + 2
  weight (plan.error t) = 2
  weight (plan.spawn body slots awaits) = 2
  weight (plan.sync e) = weight e + 4
  weight (plan.return e) = weight e + 2
  weight plan.break = 2
  weight plan.continue = 2

  pub plans_weight : Plans → ℕ
  plans_weight plan.no_plans = 3
  plans_weight (plan.plan e es) = weight e + plans_weight es + 1

  pub operands_weight : Operands → ℕ
  operands_weight plan.no_operands = 2
  operands_weight (plan.operand o e es) = weight e + operands_weight es + 1

  pub comparisons_weight : Comparisons → ℕ
  comparisons_weight plan.no_comparisons = 2
  comparisons_weight (plan.compared o e es) = weight e + comparisons_weight es + 1

  pub choices_weight : Choices → ℕ
  choices_weight plan.no_choices = 1
  choices_weight (plan.choice c e cs) = weight c + weight e + choices_weight cs + 2

  pub pieces_weight : Pieces → ℕ
  pieces_weight plan.no_pieces = 2
  pieces_weight (plan.value_piece e ps) = weight e + pieces_weight ps + 1
  pieces_weight (plan.text_piece t ps) = pieces_weight ps + 1

-- a loop's further turn begins with its condition, or with a test of its number
abbrev pub loop_weight : Loop → ℕ
loop_weight (loop.While first count c b) = weight (plan_of c.now) + 4
loop_weight (loop.Range first count b i last) = 3

abbrev pub frame_weight : Frame → ℕ
frame_weight (frame.Assign x) = 1
frame_weight (frame.Define k) = 1
frame_weight (frame.Unary o) = 1
frame_weight (frame.Operands es) = operands_weight (operands_in es.now)
frame_weight (frame.Operand o v es) = operands_weight (operands_in es.now)
frame_weight (frame.Comparisons es) = comparisons_weight (comparisons_in es.now)
frame_weight (frame.Compared o v es) = comparisons_weight (comparisons_in es.now)
frame_weight (frame.Connection c es) = plans_weight (plans es.now)
frame_weight (frame.Choice e arms otherwise) = weight (plan_of e.now) + choices_weight (choices_in arms.now) + weight (plan_of otherwise.now)
frame_weight (frame.Rest es) = plans_weight (plans es.now)
frame_weight (frame.Condition first count c b) = 3
frame_weight (frame.Low first count high b) = weight (plan_of high.now) + 5
frame_weight (frame.High first count low b) = 4
frame_weight (frame.Loop l) = loop_weight l
frame_weight (frame.Arguments f es vs) = plans_weight (plans es.now)
frame_weight (frame.Pieces ps text) = pieces_weight (pieces_in ps.now)
frame_weight (frame.Call variables n) = 1
frame_weight (frame.Sync outer) = 2
frame_weight (frame.Waiting w) = 1
frame_weight frame.Return = 1

abbrev pub frames_weight : List Frame → ℕ
frames_weight [] = 0
frames_weight (f ∷ fs) = frame_weight f + frames_weight fs

abbrev pub mode_weight : Mode → ℕ
mode_weight (mode.Begins e) = 0
mode_weight (mode.Eval e) = weight (plan_of e.now)
mode_weight (mode.Gave v) = 1
mode_weight (mode.Returned v) = 1
mode_weight mode.Broke = 1
mode_weight mode.Continued = 1
mode_weight (mode.Faulted f) = 1
mode_weight (mode.Enter f vs) = 2
mode_weight (mode.Again l) = 2
mode_weight (mode.Waits o start) = 0
mode_weight (mode.Ending v) = 0
mode_weight (mode.Failing f) = 0
mode_weight mode.Over = 0
mode_weight mode.Unfit = 0

abbrev pub work : Evaluator → Mode → ℕ
work m md = mode_weight md + frames_weight m.frames.items

-- ---- where an evaluator stands

abbrev pub has_body : Option BodyPlan → Bool
has_body None = false
has_body (Some b) = true

-- a turn begins next
abbrev pub begins : ProgramPlan → Evaluator → Mode → Bool
begins program m (mode.Enter f vs) = has_body (slice_get program.functions f) && (nat_lt 0 m.turns && nat_lt m.open_calls most_calls)
begins program m (mode.Again l) = nat_lt 0 m.turns
begins program m _ = false

-- nothing moves but by a reply or by a turn
abbrev pub rests : ProgramPlan → Evaluator → Mode → Bool
rests program m (mode.Begins e) = true
rests program m (mode.Waits o start) = true
rests program m (mode.Ending v) = true
rests program m (mode.Failing f) = true
rests program m mode.Over = true
rests program m mode.Unfit = true
rests program m (mode.Enter f vs) = begins program m (mode.Enter f vs)
rests program m (mode.Again l) = begins program m (mode.Again l)
rests program m _ = false

-- why a call can't begin
abbrev pub refusal : Option BodyPlan → ℕ → Fault
refusal None t = Method
refusal (Some b) zero = TurnLimit
refusal (Some b) (suc t) = StackLimit

-- an operation waits for its reply
abbrev pub waits : Mode → Bool
waits (mode.Begins e) = true
waits (mode.Waits o start) = true
waits (mode.Ending v) = true
waits (mode.Failing f) = true
waits _ = false

-- ---- what moves keep

-- one evaluator does what the other does, with less work
pub record Follows (program : ProgramPlan) (m : Evaluator) (md : Mode) (m' : Evaluator) (md' : Mode) : Type 0 where
  pub same : (rs : List Reply) → at program m' md' rs ≡ at program m md rs
  pub less : work m' md' < work m md
  pub turns : m'.turns ≡ m.turns

-- one evaluator does what the other does once this frame has had the end of its part
pub record Hands (program : ProgramPlan) (m : Evaluator) (f : Frame) (o : TaskPart) (m' : Evaluator) (md' : Mode) : Type 0 where
  pub same : (rs : List Reply) → at program m' md' rs ≡ resume program m.frames.items (after program f (o (state_of m rs)))
  pub less : work m' md' < 1 + frame_weight f + frames_weight m.frames.items
  pub turns : m'.turns ≡ m.turns

-- the same after one turn
pub record TakesTurn (program : ProgramPlan) (m : Evaluator) (md : Mode) (m' : Evaluator) (md' : Mode) : Type 0 where
  pub same : (rs : List Reply) → at program m' md' rs ≡ at program m md rs
  pub turns : m'.turns + 1 ≡ m.turns

-- the same, as far as it goes without a turn or a reply
pub record Settles (program : ProgramPlan) (m : Evaluator) (md : Mode) (m' : Evaluator) (md' : Mode) : Type 0 where
  pub same : (rs : List Reply) → at program m' md' rs ≡ at program m md rs
  pub turns : m'.turns ≡ m.turns
  pub rested : rests program m' md' ≡ true

-- ---- replies

abbrev pub given_mode : Given → Mode
given_mode (state.value v) = mode.Gave v
given_mode (state.fault f) = mode.Faulted f
given_mode state.unfit = mode.Unfit

abbrev pub over_by : Reply → Mode
over_by reply.Ok = mode.Over
over_by r = mode.Unfit

abbrev pub begun_by : Bor Code → Reply → Mode
begun_by e reply.Ok = mode.Eval e
begun_by e r = mode.Unfit

-- the mode after a reply
abbrev pub taken : Mode → Reply → Mode
taken (mode.Begins e) r = begun_by e r
taken (mode.Waits o start) r = given_mode (given o r)
taken (mode.Ending v) r = over_by r
taken (mode.Failing f) r = over_by r
taken md r = md

-- the replies that are left
abbrev pub unused : List Note → ℕ → List Reply
unused log used = map note_reply (drop used log)

-- the same after at most so many turns, and as far as it goes with these replies
pub record RunsOn (program : ProgramPlan) (log : List Note) (turns : ℕ) (m : Evaluator) (used : ℕ) (md : Mode) (m' : Evaluator) (used' : ℕ) (md' : Mode) : Type 0 where
  pub same : (rs : List Reply) → at program m' md' (unused log used' ++ rs) ≡ at program m md (unused log used ++ rs)
  pub within : used' ≤ length log
  pub rested : rests program m' md' ≡ true
  pub fewer : m'.turns ≤ m.turns
  pub most : m.turns ≤ m'.turns + turns
  pub spent : begins program m' md' ≡ true → m'.turns + turns ≡ m.turns
  pub all : begins program m' md' ≡ false → waits md' ≡ true → used' ≡ length log

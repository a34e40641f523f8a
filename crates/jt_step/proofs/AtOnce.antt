-- What is read at once, and what is done with it.
use Rattle.std.proofs.Common.{◌≡◌, ℕ, ◌+◌, ◌<◌, ◌≤◌, List, ◌∷◌, refl, sym, ap, ◌∙◌, arith, Bor}
use Rattle.std.specs.Prelude.{IfOk, IfSome, Result, Ok, Err, Option, Some, None, Bool, true, false}
use Rattle.jt_base.specs.declared.operation.Fault.TheVariants.{Method}
use Rattle.jt_base.specs.declared.operation.Reply.{Reply}
use Rattle.jt_base.specs.declared.value.Value.{Value}
use Rattle.jt_base.specs.declared.value.Value.TheVariants.{Int, Flag, Nothing, Task, Object}
use Rattle.jt_syntax.specs.declared.operator.Connective.{Connective}
use Rattle.jt_syntax.specs.declared.operator.Connective.TheVariants as connective
use Rattle.jt_program.specs.declared.code.Arm.{Arm}
use Rattle.jt_program.specs.declared.code.Code.{Code}
use Rattle.jt_program.specs.Plan.{ProgramPlan}
use Rattle.jt_program.specs.Plan as plan
use Rattle.jt_program.specs.View.{plan_of, plans}
use Rattle.jt_step.specs.declared.frame.Frame.TheVariants as frame
use Rattle.jt_step.specs.declared.frame.Loop.{Loop}
use Rattle.jt_step.specs.declared.frame.Loop.TheVariants as loop
use Rattle.jt_step.specs.declared.evaluator.Evaluator.{Evaluator}
use Rattle.jt_step.specs.declared.mode.Mode.{Mode}
use Rattle.jt_step.specs.declared.mode.Mode.TheVariants as mode
use Rattle.jt_step.specs.Agrees.{goes}
use Rattle.jt_meaning.specs.Meaning.{go, proceed, test, run_all, run_choices, run_connection, whole}
use Rattle.jt_step.specs.Moves.{Does, turn_mode}
use Rattle.jt_step.specs.AtOnce.{IsRead, asks, truth}
use Rattle.jt_meaning.specs.State.{State, Out, TaskPart, Gave, Faulted, bind}
use Rattle.jt_step.specs.Stack.{after, at, choices_in, does, frames_weight, later_of, mode_weight, plans_weight, resume, state_of, weight}
use Rattle.jt_step.proofs.Loops.{turn_hands}
use Rattle.jt_step.proofs.Plans.{arm-of}

-- a step that does the same gives the same
pub read_too : {E : Type 0} (r : Result (Option Value) E) (m : Evaluator) (step step' : ProgramPlan → TaskPart) → ((program : ProgramPlan) (rs : List Reply) → step' program (state_of m rs) ≡ step program (state_of m rs)) → IfOk r (λ o. IfSome o (IsRead m step)) → IfOk r (λ o. IfSome o (IsRead m step'))
read_too (Ok (Some v)) m step step' same gives = λ program rs. same program rs ∙ gives program rs
read_too (Ok None) m step step' same gives = gives
read_too (Err e) m step step' same gives = gives

-- a part and those behind it weigh less than all
pub first_lighter : (e : Code) (es rest : List Code) → es ≡ e ∷ rest → weight (plan_of e) + plans_weight (plans rest) + 1 ≤ plans_weight (plans es)
first_lighter e es rest is = rw is (omega arith)

-- what follows a value before `&&` or `||`
abbrev connected : Option Bool → Value → TaskPart → TaskPart
connected (Some true) v k s = k s
connected (Some false) v k s = Gave v s
connected None v k s = Faulted Method s

proceeds : (c : Connective) (v : Value) (k : TaskPart) (s : State) → proceed c v k s ≡ connected (asks c v) v k s
proceeds connective.And (Flag true) k s = refl
proceeds connective.And (Flag false) k s = refl
proceeds connective.And (Int n) k s = refl
proceeds connective.And Nothing k s = refl
proceeds connective.And (Task path) k s = refl
proceeds connective.And (Object kind name) k s = refl
proceeds connective.Or (Flag true) k s = refl
proceeds connective.Or (Flag false) k s = refl
proceeds connective.Or (Int n) k s = refl
proceeds connective.Or Nothing k s = refl
proceeds connective.Or (Task path) k s = refl
proceeds connective.Or (Object kind name) k s = refl

-- the one or the other by a truth value
abbrev chosen : Option Bool → TaskPart → TaskPart → TaskPart
chosen (Some true) a b s = a s
chosen (Some false) a b s = b s
chosen None a b s = Faulted Method s

tests : (v : Value) (a b : TaskPart) (s : State) → test v a b s ≡ chosen (truth v) a b s
tests (Flag true) a b s = refl
tests (Flag false) a b s = refl
tests (Int n) a b s = refl
tests Nothing a b s = refl
tests (Task path) a b s = refl
tests (Object kind name) a b s = refl

pub turn_light : (v : Value) (l : Loop) → mode_weight (turn_mode v l) ≤ 2
turn_light (Flag true) l = omega arith
turn_light (Flag false) l = omega arith
turn_light (Int n) l = omega arith
turn_light Nothing l = omega arith
turn_light (Task path) l = omega arith
turn_light (Object kind name) l = omega arith

module _ (program : ProgramPlan) where
  pub connected_waits : (c : Connective) (e : Code) (v : Value) (es rest : List Code) (s : State) → es ≡ e ∷ rest → Some true ≡ asks c v → bind (does program (plan_of e) s) (λ w. run_connection program (go program) c w (plans rest)) ≡ run_connection program (go program) c v (plans es) s
  connected_waits c e v es rest s is p = rw (is, proceeds, ← p)

  pub arm_taken : (a : Arm) (v : Value) (k : TaskPart) (arms rest : List Arm) (s : State) → arms ≡ a ∷ rest → does program (plan_of a.condition) s ≡ Gave v s → Some true ≡ truth v → does program (plan_of a.body) s ≡ run_choices program (go program) (choices_in arms) k s
  arm_taken a v k arms rest s is reads p = rw (is, arm-of, reads, tests, ← p)

  pub arm_fails : (a : Arm) (v : Value) (k : TaskPart) (arms rest : List Arm) (s : State) → arms ≡ a ∷ rest → does program (plan_of a.condition) s ≡ Gave v s → None ≡ truth v → Faulted Method s ≡ run_choices program (go program) (choices_in arms) k s
  arm_fails a v k arms rest s is reads p = rw (is, arm-of, reads, tests, ← p)

  pub part_begins : (m m' : Evaluator) (e : Code) (v : Value) (es rest : List Code) (rs : List Reply) → es ≡ e ∷ rest → m' ≡ m → bind (does program (plan_of e) (state_of m' rs)) (λ w. run_all program (go program) w (plans rest)) ≡ run_all program (go program) v (plans es) (state_of m rs)
  part_begins m m' e v es rest rs is same = rw (is, same)

  -- a part begins with no frame
  pub does_part : (m : Evaluator) (e : Bor Code) (step : TaskPart) (most : ℕ) → ((rs : List Reply) → does program (plan_of e.now) (state_of m rs) ≡ step (state_of m rs)) → weight (plan_of e.now) < most → Does program m step most m (mode.Eval e)
  does_part m e step most p w = record {
    same = λ rs. ap (resume program m.frames.items) (p rs);
    less = omega (arith, w);
    turns = refl;
  }

  -- a move of an evaluator with the same frames and turns does what another step does here
  pub does_amid : (m0 m m' : Evaluator) (md : Mode) (step step' : TaskPart) (most most' : ℕ) → m.frames.items ≡ m0.frames.items → m.turns ≡ m0.turns → Does program m step most m' md → ((rs : List Reply) → step (state_of m rs) ≡ step' (state_of m0 rs)) → most ≤ most' → Does program m0 step' most' m' md
  does_amid m0 m m' md step step' most most' f t h p w = record {
    same = λ rs. h.same rs ∙ ap (λ fs. resume program fs (step (state_of m rs))) f ∙ ap (resume program m0.frames.items) (p rs);
    less = omega (arith, h.less, ap (λ fs. frames_weight fs) f, w);
    turns = h.turns ∙ t;
  }

  -- a loop whose condition is read once its body has ended
  pub while_reads : (m : Evaluator) (l : Loop) (first count : ℕ) (c b : Bor Code) (v : Value) → l ≡ loop.While first count c b → IsRead m (λ program. does program (plan_of c.now)) v → (rs : List Reply) → at program m (turn_mode v l) rs ≡ resume program m.frames.items (go program (later_of l) (state_of m rs))
  while_reads m l first count c b v is reads rs = rw is (
      (turn_hands program m first count c b v).same rs
      ∙ ap (λ (o : Out). resume program m.frames.items (after program (frame.Condition first count c b) o)) (sym (reads program rs))
      ∙ ap (resume program m.frames.items) (sym (goes program (whole (plan.while first count (plan_of c.now) (plan_of b.now))) (state_of m rs))))

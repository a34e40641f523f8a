-- The further turns of a loop.
use Rattle.std.proofs.Common.{◌≡◌, ℕ, ◌≤◌, List, [], ◌∷◌, ◌++◌, refl, sym, ap, ◌∙◌, arith, Bor}
use Rattle.std.specs.Prelude.{ℤ, pos, ◌+ℤ◌, int_lt, int_le, Bool, true, false}
use Rattle.std.proofs.lemmas.Int.{ints}
use Rattle.jt_base.specs.declared.operation.Fault.TheVariants.{Method}
use Rattle.jt_base.specs.declared.value.Value.{Value}
use Rattle.jt_base.specs.declared.value.Value.TheVariants.{Int, Flag, Nothing, Task, Object}
use Rattle.jt_program.specs.Plan.{ProgramPlan}
use Rattle.jt_program.specs.Plan as plan
use Rattle.jt_program.specs.View.{plan_of}
use Rattle.jt_program.specs.declared.code.Code.{Code}
use Rattle.jt_step.specs.declared.frame.Frame.{Frame}
use Rattle.jt_step.specs.declared.frame.Frame.TheVariants as frame
use Rattle.jt_step.specs.declared.frame.Loop.{Loop}
use Rattle.jt_step.specs.declared.frame.Loop.TheVariants as loop
use Rattle.jt_step.specs.declared.evaluator.Evaluator.{Evaluator}
use Rattle.jt_step.specs.declared.mode.Mode.TheVariants as mode
use Rattle.jt_meaning.specs.Meaning.{go, whole, range, either, turns_from}
use Rattle.jt_step.specs.Moves.{range_mode, turn_mode, bounds_mode}
use Rattle.jt_meaning.specs.State.{State, Gave, Faulted}
use Rattle.jt_step.specs.Stack.{again, after, doing, resume, does, state_of, later_of, mode_weight, Hands}
use Rattle.jt_step.specs.Agrees.{goes}
use Rattle.jt_step.proofs.Moves.{gives_fault}
use Rattle.jt_step.proofs.Resumes.{through_push}

-- the next number is at most the last one where this one is below it
below_next : (i last : ℤ) → int_lt i last ≡ int_le (i +ℤ pos 1) last
below_next i last = grind (arith, ints)

pub range_light : (b : Bool) (l : Loop) → mode_weight (range_mode b l) ≤ 2
range_light true l = omega arith
range_light false l = omega arith

module _ (program : ProgramPlan) where
  -- the condition of a loop after its body
  pub while_on : (fs fs' : List Frame) (l : Loop) (first count : ℕ) (c b : Bor Code) (s : State) → l ≡ loop.While first count c b → fs' ≡ fs ++ frame.Condition first count c b ∷ [] → doing program fs' (mode.Eval c) s ≡ resume program fs (go program (later_of l) s)
  while_on fs fs' l first count c b s e p = rw (p, through_push, e) (ap (resume program fs) (sym (goes program (whole (plan.while first count (plan_of c.now) (plan_of b.now))) s)))

  range_does : (fs : List Frame) (b : Bool) (first count : ℕ) (body : Bor Code) (i last : ℤ) (s : State) → doing program fs (range_mode b (loop.Range first count body i last)) s ≡ resume program fs (either b (again program (loop.Range first count body i last)) (Gave Nothing) s)
  range_does fs true first count body i last s = refl
  range_does fs false first count body i last s = refl

  -- the turns from a number on
  pub range_from : (fs : List Frame) (b : Bool) (first count : ℕ) (body : Bor Code) (i last : ℤ) (s : State) → b ≡ int_le i last → doing program fs (range_mode b (loop.Range first count body i last)) s ≡ resume program fs (turns_from (go program) first count (plan_of body.now) (does program (plan_of body.now)) i last s)
  range_from fs b first count body i last s e = rw (← e) (range_does fs b first count body i last s)

  -- the turns after the one with this number
  pub range_on : (fs : List Frame) (l : Loop) (first count : ℕ) (body : Bor Code) (i last : ℤ) (s : State) → l ≡ loop.Range first count body i last → doing program fs (range_mode (int_lt i last) (loop.Range first count body (i +ℤ pos 1) last)) s ≡ resume program fs (go program (later_of l) s)
  range_on fs l first count body i last s e = rw e (range_from fs (int_lt i last) first count body (i +ℤ pos 1) last s (below_next i last) ∙ ap (resume program fs) (sym (goes program (range first count (plan_of body.now) (i +ℤ pos 1) last) s)))

  -- a loop whose condition has its value
  pub turn_hands : (m : Evaluator) (first count : ℕ) (c b : Bor Code) (v : Value) → Hands program m (frame.Condition first count c b) (Gave v) m (turn_mode v (loop.While first count c b))
  turn_hands m first count c b (Int n) = record { same = λ rs. refl; less = omega arith; turns = refl }
  turn_hands m first count c b (Flag true) = record { same = λ rs. refl; less = omega arith; turns = refl }
  turn_hands m first count c b (Flag false) = record { same = λ rs. refl; less = omega arith; turns = refl }
  turn_hands m first count c b Nothing = record { same = λ rs. refl; less = omega arith; turns = refl }
  turn_hands m first count c b (Task path) = record { same = λ rs. refl; less = omega arith; turns = refl }
  turn_hands m first count c b (Object kind name) = record { same = λ rs. refl; less = omega arith; turns = refl }

  no_bounds : (m : Evaluator) (first count : ℕ) (low v : Value) (b : Bor Code) → bounds_mode first count b low v ≡ mode.Faulted Method → ((s : State) → Faulted Method s ≡ after program (frame.High first count low b) (Gave v s)) → Hands program m (frame.High first count low b) (Gave v) m (bounds_mode first count b low v)
  no_bounds m first count low v b e p = rw e (gives_fault program m (frame.High first count low b) (Gave v) Method p)

  -- a loop over numbers whose upper bound has its value
  pub bounds_hands : (m : Evaluator) (first count : ℕ) (low v : Value) (b : Bor Code) → Hands program m (frame.High first count low b) (Gave v) m (bounds_mode first count b low v)
  bounds_hands m first count (Int i) (Int j) b = record {
    same = λ rs. range_from m.frames.items (int_le i j) first count b i j (state_of m rs) refl;
    less = omega (arith, range_light (int_le i j) (loop.Range first count b i j));
    turns = refl;
  }
  bounds_hands m first count (Int i) (Flag f) b = no_bounds m first count (Int i) (Flag f) b refl (λ s. refl)
  bounds_hands m first count (Int i) Nothing b = no_bounds m first count (Int i) Nothing b refl (λ s. refl)
  bounds_hands m first count (Int i) (Task path) b = no_bounds m first count (Int i) (Task path) b refl (λ s. refl)
  bounds_hands m first count (Int i) (Object kind name) b = no_bounds m first count (Int i) (Object kind name) b refl (λ s. refl)
  bounds_hands m first count (Flag f) v b = no_bounds m first count (Flag f) v b refl (λ s. refl)
  bounds_hands m first count Nothing v b = no_bounds m first count Nothing v b refl (λ s. refl)
  bounds_hands m first count (Task path) v b = no_bounds m first count (Task path) v b refl (λ s. refl)
  bounds_hands m first count (Object kind name) v b = no_bounds m first count (Object kind name) v b refl (λ s. refl)

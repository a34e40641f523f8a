-- A frame is pushed, and what single moves of an evaluator keep.
use Rattle.std.proofs.Common.{◌≡◌, ℕ, ◌+◌, ◌<◌, ◌≤◌, List, [], ◌∷◌, ◌++◌, refl, sym, ap, ◌∙◌, arith, Bor}
use Rattle.jt_base.specs.declared.operation.Fault.{Fault}
use Rattle.jt_base.specs.declared.operation.Reply.{Reply}
use Rattle.jt_base.specs.declared.value.Value.{Value}
use Rattle.jt_program.specs.Plan.{Plan, ProgramPlan}
use Rattle.jt_program.specs.Plan as plan
use Rattle.jt_program.specs.View.{plan_of, plans}
use Rattle.jt_program.specs.declared.code.Callee.{Callee}
use Rattle.jt_program.specs.declared.code.Callee.TheVariants as callee
use Rattle.jt_program.specs.declared.code.Code.{Code}
use Rattle.jt_step.specs.declared.frame.Frame.{Frame}
use Rattle.jt_step.specs.declared.evaluator.Evaluator.{Evaluator}
use Rattle.jt_step.specs.declared.mode.Mode.{Mode}
use Rattle.jt_step.specs.declared.mode.Mode.TheVariants as mode
use Rattle.jt_meaning.specs.State.{State, Out, TaskPart, Gave, Returned, Broke, Continued, Faulted, Asks, Unfit, bind}
use Rattle.jt_meaning.specs.Meaning.{go, run_all, run_arguments}
use Rattle.jt_step.specs.Moves.{Does}
use Rattle.jt_step.specs.Stack.{after, resume, does, state_of, weight, plans_weight, frame_weight, frames_weight, Follows, Hands}
use Rattle.jt_step.proofs.Weights.{weight_push, frame_least}
use Rattle.jt_step.proofs.Resumes.{through_push}

-- what follows gives the value again
gives_itself : (o : Out) (k : Value → TaskPart) → ((v : Value) (s : State) → k v s ≡ Gave v s) → bind o k ≡ o
gives_itself (Gave v s) k p = p v s
gives_itself (Returned v s) k p = refl
gives_itself (Broke s) k p = refl
gives_itself (Continued s) k p = refl
gives_itself (Faulted f s) k p = refl
gives_itself (Asks op start s) k p = refl
gives_itself Unfit k p = refl

module _ (program : ProgramPlan) where
  -- a frame is pushed, and a part begins
  pub pushes : (m m' : Evaluator) (f : Frame) (e : Bor Code) (step : TaskPart) (most : ℕ) → m'.frames.items ≡ m.frames.items ++ f ∷ [] → ((rs : List Reply) → state_of m' rs ≡ state_of m rs) → m'.turns ≡ m.turns → ((s : State) → after program f (does program (plan_of e.now) s) ≡ step s) → weight (plan_of e.now) + frame_weight f < most → Does program m step most m' (mode.Eval e)
  pushes m m' f e step most p st t h w = record {
    same = λ rs. rw (p, through_push, st rs, h (state_of m rs));
    less = rw (p, weight_push) (omega arith);
    turns = t;
  }

  -- a part begins by a move that does what the part does
  pub begins_by : (m m' : Evaluator) (md : Mode) (e : Bor Code) (step : TaskPart) (most : ℕ) → Does program m step most m' md → ((s : State) → step s ≡ does program (plan_of e.now) s) → most ≤ weight (plan_of e.now) → Follows program m (mode.Eval e) m' md
  begins_by m m' md e step most h p w = record {
    same = λ rs. h.same rs ∙ ap (resume program m.frames.items) (p (state_of m rs));
    less = omega (arith, h.less);
    turns = h.turns;
  }

  -- a frame has the end of its part by a move that does what the frame does then
  pub gives_by : (m m' : Evaluator) (md : Mode) (f : Frame) (o step : TaskPart) (most : ℕ) → Does program m step most m' md → ((s : State) → step s ≡ after program f (o s)) → most ≤ 1 + frame_weight f → Hands program m f o m' md
  gives_by m m' md f o step most h p w = record {
    same = λ rs. h.same rs ∙ ap (resume program m.frames.items) (p (state_of m rs));
    less = omega (arith, h.less);
    turns = h.turns;
  }

  -- a frame gives a value at once
  pub gives_value : (m : Evaluator) (f : Frame) (o : TaskPart) (v : Value) → ((s : State) → Gave v s ≡ after program f (o s)) → Hands program m f o m (mode.Gave v)
  gives_value m f o v p = record {
    same = λ rs. ap (resume program m.frames.items) (p (state_of m rs));
    less = omega (arith, frame_least f);
    turns = refl;
  }

  -- a frame fails at once
  pub gives_fault : (m : Evaluator) (f : Frame) (o : TaskPart) (x : Fault) → ((s : State) → Faulted x s ≡ after program f (o s)) → Hands program m f o m (mode.Faulted x)
  gives_fault m f o x p = record {
    same = λ rs. ap (resume program m.frames.items) (p (state_of m rs));
    less = omega (arith, frame_least f);
    turns = refl;
  }

  -- a move of an equal evaluator does what another step does here
  pub does_from : (m0 m m' : Evaluator) (md : Mode) (step step' : TaskPart) (most most' : ℕ) → m ≡ m0 → Does program m step most m' md → ((rs : List Reply) → step (state_of m0 rs) ≡ step' (state_of m0 rs)) → most ≤ most' → Does program m0 step' most' m' md
  does_from m0 m m' md step step' most most' k h p w = record {
    same = λ rs. h.same rs ∙ ap (λ (n : Evaluator). resume program n.frames.items (step (state_of n rs))) k ∙ ap (resume program m0.frames.items) (p rs);
    less = omega (arith, h.less, ap (λ (n : Evaluator). frames_weight n.frames.items) k);
    turns = h.turns ∙ ap (λ (n : Evaluator). n.turns) k;
  }

  -- a frame is pushed in an equal evaluator
  pub pushes_from : (m0 m m' : Evaluator) (f : Frame) (e : Bor Code) (step step' : TaskPart) (most most' : ℕ) → m ≡ m0 → m'.frames.items ≡ m.frames.items ++ f ∷ [] → ((rs : List Reply) → state_of m' rs ≡ state_of m rs) → m'.turns ≡ m.turns → ((s : State) → after program f (does program (plan_of e.now) s) ≡ step s) → weight (plan_of e.now) + frame_weight f < most → ((rs : List Reply) → step (state_of m0 rs) ≡ step' (state_of m0 rs)) → most ≤ most' → Does program m0 step' most' m' (mode.Eval e)
  pushes_from m0 m m' f e step step' most most' k p st t h w q l = does_from m0 m m' (mode.Eval e) step step' most most' k (pushes m m' f e step most p st t h w) q l

  -- a value, or a fault, is known at once
  pub does_value : (m : Evaluator) (v : Value) (step : TaskPart) (most : ℕ) → ((rs : List Reply) → Gave v (state_of m rs) ≡ step (state_of m rs)) → 2 ≤ most → Does program m step most m (mode.Gave v)
  does_value m v step most p w = record {
    same = λ rs. ap (resume program m.frames.items) (p rs);
    less = omega arith;
    turns = refl;
  }

  pub does_fault : (m : Evaluator) (x : Fault) (step : TaskPart) (most : ℕ) → ((rs : List Reply) → Faulted x (state_of m rs) ≡ step (state_of m rs)) → 2 ≤ most → Does program m step most m (mode.Faulted x)
  does_fault m x step most p w = record {
    same = λ rs. ap (resume program m.frames.items) (p rs);
    less = omega arith;
    turns = refl;
  }

  -- a function is entered once its arguments are known
  pub enters : (m : Evaluator) (c : Callee) (f : ℕ) (vs : List Value) (es : List Code) → c ≡ callee.Function f → es ≡ [] → Does program m (run_arguments program (go program) c vs (plans es)) (plans_weight (plans es) + 1) m (mode.Enter f vs)
  enters m c f vs es is none = rw (is, none) (record {
    same = λ rs. refl;
    less = omega arith;
    turns = refl;
  })

  -- a frame has a value that is read
  pub reads_to : (m m' : Evaluator) (md : Mode) (f : Frame) (e : Plan) (v : Value) → Hands program m f (Gave v) m' md → ((rs : List Reply) → does program e (state_of m rs) ≡ Gave v (state_of m rs)) → Does program m (λ (s : State). after program f (does program e s)) (weight e + frame_weight f + 1) m' md
  reads_to m m' md f e v h p = record {
    same = λ rs. h.same rs ∙ ap (λ (o : Out). resume program m.frames.items (after program f o)) (sym (p rs));
    less = omega (arith, h.less);
    turns = h.turns;
  }

  -- the last part of a block begins with no frame
  pub ends_with : (m : Evaluator) (e : Bor Code) (rest : List Code) → rest ≡ [] → Does program m (λ (s : State). bind (does program (plan_of e.now) s) (λ v. run_all program (go program) v (plans rest))) (weight (plan_of e.now) + plans_weight (plans rest) + 1) m (mode.Eval e)
  ends_with m e rest none = rw none (record {
    same = λ rs. ap (resume program m.frames.items) (sym (gives_itself (does program (plan_of e.now) (state_of m rs)) (λ v. run_all program (go program) v plan.no_plans) (λ v s. refl)));
    less = omega arith;
    turns = refl;
  })

-- One frame more on the stack.
use Rattle.std.proofs.Common.{◌≡◌, List, [], ◌∷◌, ◌++◌, refl, sym, ap, ◌∙◌, arith}
use Rattle.jt_base.specs.declared.operation.Reply.{Reply}
use Rattle.jt_program.specs.Plan.{ProgramPlan}
use Rattle.jt_step.specs.declared.frame.Frame.{Frame}
use Rattle.jt_step.specs.declared.evaluator.Evaluator.{Evaluator}
use Rattle.jt_step.specs.declared.mode.Mode.{Mode}
use Rattle.jt_meaning.specs.State.{Out, State, TaskPart}
use Rattle.jt_meaning.specs.Meaning.{ended}
use Rattle.jt_step.specs.Stack.{after, through, resume, state_of, mode_weight, doing, Follows, Hands}
use Rattle.jt_step.proofs.Weights.{weight_push}

module _ (program : ProgramPlan) where
  pub through_push : (fs : List Frame) (f : Frame) (o : Out) → through program (fs ++ f ∷ []) o ≡ through program fs (after program f o)
  through_push [] f o = refl
  through_push (g ∷ fs) f o = ap (after program g) (through_push fs f o)

  -- a frame is taken off and has the end of its part
  pub hands : (m m' m2 : Evaluator) (f : Frame) (md md' : Mode) (o : TaskPart) → m.frames.items ≡ m'.frames.items ++ f ∷ [] → ((fs : List Frame) (s : State) → doing program fs md s ≡ resume program fs (o s)) → ((rs : List Reply) → state_of m' rs ≡ state_of m rs) → m'.turns ≡ m.turns → mode_weight md ≡ 1 → Hands program m' f o m2 md' → Follows program m md m2 md'
  hands m m' m2 f md md' o p d st t w h = record {
    same = λ rs. h.same rs ∙ sym (d m.frames.items (state_of m rs) ∙ ap (λ fs. resume program fs (o (state_of m rs))) p ∙ ap ended (through_push m'.frames.items f (o (state_of m rs))) ∙ ap (λ s. resume program m'.frames.items (after program f (o s))) (sym (st rs)));
    less = rw (p, weight_push) (omega (arith, h.less));
    turns = h.turns ∙ t;
  }

-- The waits at the end of an `@sync`, and functions of the language that are called.
use Rattle.std.proofs.Common.{◌≡◌, ℕ, zero, suc, ◌+◌, ◌≤◌, List, [], ◌∷◌, ◌++◌, drop, add-one, refl, sym, ap, ◌∙◌, arith, Bor, Option, Some, None, Ok, Err}
use Rattle.std.specs.Prelude.{slice_get}
use Rattle.jt_base.specs.declared.operation.Fault.{Fault}
use Rattle.jt_base.specs.declared.operation.Op.TheVariants as op
use Rattle.jt_base.specs.declared.operation.Reply.{Reply}
use Rattle.jt_base.specs.declared.value.Value.{Value}
use Rattle.jt_base.specs.declared.value.Value.TheVariants.{Task}
use Rattle.jt_program.specs.declared.code.BuiltIn.{BuiltIn}
use Rattle.jt_program.specs.declared.code.BuiltIn.TheVariants as built_in
use Rattle.jt_program.specs.declared.code.Callee.{Callee}
use Rattle.jt_program.specs.declared.code.Callee.TheVariants as callee
use Rattle.jt_program.specs.declared.code.Code.{Code}
use Rattle.jt_program.specs.Plan.{ProgramPlan}
use Rattle.jt_program.specs.View.{plan_of, plans}
use Rattle.jt_step.specs.declared.frame.Exit.{Exit}
use Rattle.jt_step.specs.declared.frame.Exit.TheVariants as exit
use Rattle.jt_step.specs.declared.frame.Frame.{Frame}
use Rattle.jt_step.specs.declared.frame.Frame.TheVariants as frame
use Rattle.jt_step.specs.declared.frame.Waits.{Waits}
use Rattle.jt_step.specs.declared.evaluator.Evaluator.{Evaluator}
use Rattle.jt_step.specs.declared.mode.Mode.{Mode}
use Rattle.jt_step.specs.declared.mode.Mode.TheVariants as mode
use Rattle.jt_meaning.specs.State.{State, ask}
use Rattle.jt_meaning.specs.Values.{Valued, applied}
use Rattle.jt_meaning.specs.Meaning.{awaiting, call_built_in, gives, go, noticed, run_arguments, synced, unless_failed, wait_all}
use Rattle.jt_step.specs.Moves.{Does, built_in_mode, left_mode, valued_mode}
use Rattle.jt_step.specs.Stack.{does, doing, exits, mode_weight, plans_weight, resume, state_of, weight}
use Rattle.jt_step.proofs.Resumes.{through_push}
use Rattle.jt_step.proofs.Weights.{weight_push}

-- ---- the tasks that are left

drop_none : {X : Type 0} (xs : List X) (n : ℕ) → slice_get xs n ≡ None → drop n xs ≡ []
drop_none [] zero h = refl
drop_none [] (suc n) h = refl
drop_none (x ∷ xs) zero h = cc
drop_none (x ∷ xs) (suc n) h = drop_none xs n h

drop_some : {X : Type 0} (xs : List X) (n : ℕ) (x : X) → slice_get xs n ≡ Some x → drop n xs ≡ x ∷ drop (suc n) xs
drop_some [] n x h = cc
drop_some (y ∷ xs) zero x h = cc
drop_some (y ∷ xs) (suc n) x h = drop_some xs n x h

drop_next : {X : Type 0} (xs : List X) (n : ℕ) (x : X) → slice_get xs n ≡ Some x → drop n xs ≡ x ∷ drop (n + 1) xs
drop_next xs n x h = drop_some xs n x h ∙ ap (λ m. x ∷ drop m xs) (sym (add-one n))

module _ (program : ProgramPlan) where
  ends_part : (m : Evaluator) (x : Exit) (v : Value) (f : Option Fault) → Does program m (unless_failed (exits x v) f) 2 m (left_mode x v f)
  ends_part m x v (Some f) = record { same = λ rs. refl; less = omega arith; turns = refl }
  ends_part m exit.Value v None = record { same = λ rs. refl; less = omega arith; turns = refl }
  ends_part m exit.Return v None = record { same = λ rs. refl; less = omega arith; turns = refl }

  -- no task is left
  pub waits_end : (m : Evaluator) (w : Waits) (md : Mode) → md ≡ left_mode w.exit w.value w.fault → slice_get w.paths w.next ≡ None → Does program m (wait_all (drop w.next w.paths) w.fault (unless_failed (exits w.exit w.value))) 2 m md
  waits_end m w md e h = rw (e, drop_none w.paths w.next h) (ends_part m w.exit w.value w.fault)

  -- the next task is waited for
  pub waits_next : (m m' : Evaluator) (w : Waits) (path : List ℕ) (md : Mode) → md ≡ mode.Waits (op.Wait path) None → m'.frames.items ≡ m.frames.items ++ frame.Waiting (record w { next = w.next + 1 }) ∷ [] → ((rs : List Reply) → state_of m' rs ≡ state_of m rs) → m'.turns ≡ m.turns → slice_get w.paths w.next ≡ Some path → Does program m (wait_all (drop w.next w.paths) w.fault (unless_failed (exits w.exit w.value))) 2 m' md
  waits_next m m' w path md e p st t h = rw (e, drop_next w.paths w.next path h) (record {
    same = λ rs. rw (p, through_push) (ap (λ s. resume program m.frames.items (noticed w.fault (λ f. wait_all (drop (w.next + 1) w.paths) f (unless_failed (exits w.exit w.value))) (ask (op.Wait path) None s))) (st rs));
    less = rw (p, weight_push) (omega arith);
    turns = t;
  })

  synced_waits : (outer : List (List ℕ)) (x : Exit) (v : Value) (s : State) → wait_all s.awaited None (unless_failed (exits x v)) (awaiting outer s) ≡ synced outer (exits x v s)
  synced_waits outer exit.Value v s = refl
  synced_waits outer exit.Return v s = refl

  -- a part has ended: the tasks that were made in it are waited for
  pub ends_sync : (m m1 m' : Evaluator) (md : Mode) (outer paths : List (List ℕ)) (x : Exit) (v : Value) → Does program m1 (wait_all paths None (unless_failed (exits x v))) 2 m' md → paths ≡ m.awaited → m1.frames.items ≡ m.frames.items → ((rs : List Reply) → state_of m1 rs ≡ awaiting outer (state_of m rs)) → m1.turns ≡ m.turns → Does program m (λ s. synced outer (exits x v s)) 3 m' md
  ends_sync m m1 m' md outer paths x v h a p st t = record {
    same = λ rs.
        h.same rs
        ∙ ap (λ fs. resume program fs (wait_all paths None (unless_failed (exits x v)) (state_of m1 rs))) p
        ∙ ap (λ s. resume program m.frames.items (wait_all paths None (unless_failed (exits x v)) s)) (st rs)
        ∙ ap (λ ps. resume program m.frames.items (wait_all ps None (unless_failed (exits x v)) (awaiting outer (state_of m rs)))) a
        ∙ ap (resume program m.frames.items) (synced_waits outer x v (state_of m rs));
    less = let l = rw p at h.less in omega (arith, l);
    turns = h.turns ∙ t;
  }

  -- a part begins, in which no task was made yet
  pub begins_sync : (m m' : Evaluator) (e : Bor Code) → m'.frames.items ≡ m.frames.items ++ frame.Sync m.awaited ∷ [] → ((rs : List Reply) → state_of m' rs ≡ awaiting [] (state_of m rs)) → m'.turns ≡ m.turns → Does program m (λ s. synced s.awaited (does program (plan_of e.now) (awaiting [] s))) (weight (plan_of e.now) + 4) m' (mode.Eval e)
  begins_sync m m' e p st t = record {
    same = λ rs. rw (p, through_push, st rs);
    less = rw (p, weight_push) (omega arith);
    turns = t;
  }

  -- ---- functions of the language

  valued_does : (fs : List Frame) (r : Valued) (s : State) → doing program fs (valued_mode r) s ≡ resume program fs (gives r s)
  valued_does fs (Ok v) s = refl
  valued_does fs (Err f) s = refl

  valued_light : (r : Valued) → mode_weight (valued_mode r) ≤ 1
  valued_light (Ok v) = omega arith
  valued_light (Err f) = omega arith

  built_in_does : (fs : List Frame) (f : BuiltIn) (vs : List Value) (s : State) → doing program fs (built_in_mode f vs) s ≡ resume program fs (call_built_in f vs s)
  built_in_does fs built_in.Fetch (Task path ∷ []) s = refl
  built_in_does fs built_in.Wait (Task path ∷ []) s = refl
  built_in_does fs built_in.Yield [] s = refl
  built_in_does fs f vs s = valued_does fs (applied f vs) s

  built_in_light : (f : BuiltIn) (vs : List Value) → mode_weight (built_in_mode f vs) ≤ 1
  built_in_light built_in.Fetch (Task path ∷ []) = omega arith
  built_in_light built_in.Wait (Task path ∷ []) = omega arith
  built_in_light built_in.Yield [] = omega arith
  built_in_light f vs = valued_light (applied f vs)

  -- the last argument has its value
  pub calls_built_in : (m : Evaluator) (c : Callee) (f : BuiltIn) (vs : List Value) (es : List Code) (md : Mode) → c ≡ callee.BuiltIn f → es ≡ [] → md ≡ built_in_mode f vs → Does program m (run_arguments program (go program) c vs (plans es)) (plans_weight (plans es) + 1) m md
  calls_built_in m c f vs es md is none e = rw (is, none, e) (record {
    same = λ rs. built_in_does m.frames.items f vs (state_of m rs);
    less = omega (arith, built_in_light f vs);
    turns = refl;
  })

-- A turn that begins, and one that can't.
use Rattle.std.proofs.Common.{◌≡◌, ℕ, zero, suc, ◌+◌, ◌-◌, List, [], ◌∷◌, ◌++◌, refl, sym, ap, ◌∙◌, arith, Bor, Option, Some, None, Bool, true, false, ◌&&◌}
use Rattle.std.specs.Prelude.{nat_lt, slice_get}
use Rattle.std.proofs.lemmas.Bool.{lt-ltb}
use Rattle.jt_base.specs.declared.value.Value.{Value}
use Rattle.jt_base.specs.declared.operation.Reply.{Reply}
use Rattle.jt_base.specs.declared.operation.Fault.TheVariants.{TurnLimit}
use Rattle.jt_base.specs.Limits.{most_calls}
use Rattle.jt_program.specs.declared.code.Code.{Code}
use Rattle.jt_program.specs.Plan.{BodyPlan, ProgramPlan}
use Rattle.jt_program.specs.View.{plan_of}
use Rattle.jt_step.specs.declared.frame.Frame.TheVariants as frame
use Rattle.jt_step.specs.declared.frame.Loop.{Loop}
use Rattle.jt_step.specs.declared.frame.Loop.TheVariants as loop
use Rattle.jt_step.specs.declared.evaluator.Evaluator.{Evaluator}
use Rattle.jt_step.specs.declared.mode.Mode.TheVariants as mode
use Rattle.jt_meaning.specs.State.{State, TaskPart, Faulted, turn_with, enter_with}
use Rattle.jt_meaning.specs.Meaning.{ended, go, left, looped, call, variables_of, whole}
use Rattle.jt_step.specs.Stack.{refusal, rests, Follows, through, resume, does, later_of, again, state_of, begins, has_body, TakesTurn}
use Rattle.jt_step.specs.Task.{body_in, turned}
use Rattle.jt_step.specs.Agrees.{goes}
use Rattle.jt_step.proofs.Resumes.{through_push}

turn_goes : (t : ℕ) (k : TaskPart) (s : State) → nat_lt 0 t ≡ true → turn_with t k s ≡ k (record s { turns = t - 1 })
turn_goes zero k s h = cc
turn_goes (suc t) k s h = ap (λ t. k (record s { turns = t })) (omega arith)

one_less : (t : ℕ) → nat_lt 0 t ≡ true → t - 1 + 1 ≡ t
one_less zero h = cc
one_less (suc t) h = omega arith

enter_goes : (t : ℕ) (x : Bool) (k : TaskPart) (s : State) → (nat_lt 0 t && x) ≡ true → enter_with t x k s ≡ k (record s { turns = t - 1; open_calls = s.open_calls + 1 })
enter_goes zero x k s h = cc
enter_goes (suc t) false k s h = let e = lt-ltb 0 (suc t) (omega arith) in let n : false ≡ true = ap (λ y. y && false) (sym e) ∙ h in cc
enter_goes (suc t) true k s h = ap (λ t. k (record s { turns = t; open_calls = s.open_calls + 1 })) (omega arith)

both_left : (a b : Bool) → (a && b) ≡ true → a ≡ true
both_left true b h = refl
both_left false b h = h

both_right : (a b : Bool) → (a && b) ≡ true → b ≡ true
both_right true b h = h
both_right false b h = cc

module _ (program : ProgramPlan) where
  -- what a loop's turn does
  abbrev does_turn : Loop → TaskPart
  does_turn l s = looped (go program (later_of l)) (does program (plan_of (body_in l).now) (turned l s))

  again_turns : (l : Loop) (s : State) → nat_lt 0 s.turns ≡ true → again program l s ≡ does_turn l (record s { turns = s.turns - 1 })
  again_turns (loop.While first count c b) s h = turn_goes s.turns (does_turn (loop.While first count c b)) s h
  again_turns (loop.Range first count b i last) s h = turn_goes s.turns (does_turn (loop.Range first count b i last)) s h

  pub loop_begins : (m m' : Evaluator) (l : Loop) (b : Bor Code) → b.now ≡ (body_in l).now → nat_lt 0 m.turns ≡ true → m'.frames.items ≡ m.frames.items ++ frame.Loop l ∷ [] → ((rs : List Reply) → state_of m' rs ≡ turned l (record (state_of m rs) { turns = m.turns - 1 })) → m'.turns ≡ m.turns - 1 → TakesTurn program m (mode.Again l) m' (mode.Eval b)
  loop_begins m m' l b e h p st u = record {
    same = λ rs.
        ap ended (ap (λ fs. through program fs (does program (plan_of b.now) (state_of m' rs))) p ∙ through_push program m.frames.items (frame.Loop l) _)
        ∙ ap (resume program m.frames.items)
        (ap (λ s. looped (go program (later_of l)) (does program (plan_of b.now) s)) (st rs)
        ∙ ap (λ c. looped (go program (later_of l)) (does program (plan_of c) (turned l (record (state_of m rs) { turns = m.turns - 1 })))) e
        ∙ sym (again_turns l (state_of m rs) h));
    turns = ap (λ n. n + 1) u ∙ one_less m.turns h;
  }

  call_goes : (o : Option BodyPlan) (b : BodyPlan) (vs : List Value) (s : State) → o ≡ Some b → (has_body o && (nat_lt 0 s.turns && nat_lt s.open_calls most_calls)) ≡ true → call (go program) o vs s ≡ left s.variables s.open_calls (does program b.code (record s { variables = variables_of b vs; turns = s.turns - 1; open_calls = s.open_calls + 1 }))
  call_goes o b vs s e h =
      let limits = both_right (has_body o) _ h in
      let k : TaskPart = λ s2. left s.variables s.open_calls (go program (whole b.code) (record s2 { variables = variables_of b vs })) in
      ap (λ o. call (go program) o vs s) e
      ∙ enter_goes s.turns (nat_lt s.open_calls most_calls) k s limits
      ∙ ap (left s.variables s.open_calls) (goes program (whole b.code) (record s { variables = variables_of b vs; turns = s.turns - 1; open_calls = s.open_calls + 1 }))

  pub call_begins : (m m' : Evaluator) (f : ℕ) (vs : List Value) (b : BodyPlan) (e : Bor Code) → slice_get program.functions f ≡ Some b → plan_of e.now ≡ b.code → begins program m (mode.Enter f vs) ≡ true → m'.frames.items ≡ m.frames.items ++ frame.Call m.variables m.open_calls ∷ [] → ((rs : List Reply) → state_of m' rs ≡ record (state_of m rs) { variables = variables_of b vs; turns = m.turns - 1; open_calls = m.open_calls + 1 }) → m'.turns ≡ m.turns - 1 → TakesTurn program m (mode.Enter f vs) m' (mode.Eval e)
  call_begins m m' f vs b e is en h p st u = record {
    same = λ rs.
        ap ended (ap (λ fs. through program fs (does program (plan_of e.now) (state_of m' rs))) p ∙ through_push program m.frames.items (frame.Call m.variables m.open_calls) _)
        ∙ ap (resume program m.frames.items)
        (ap (λ s. left m.variables m.open_calls (does program (plan_of e.now) s)) (st rs)
        ∙ ap (λ x. left m.variables m.open_calls (does program x (record (state_of m rs) { variables = variables_of b vs; turns = m.turns - 1; open_calls = m.open_calls + 1 }))) en
        ∙ sym (call_goes (slice_get program.functions f) b vs (state_of m rs) is h));
    turns = ap (λ n. n + 1) u ∙ one_less m.turns (both_left (nat_lt 0 m.turns) _ (both_right (has_body (slice_get program.functions f)) _ h));
  }

  abbrev body_of : BodyPlan → List Value → State → TaskPart
  body_of b vs s s2 = left s.variables s.open_calls (go program (whole b.code) (record s2 { variables = variables_of b vs }))

  call_refused : (o : Option BodyPlan) (vs : List Value) (s : State) (t : ℕ) → t ≡ s.turns → (has_body o && (nat_lt 0 t && nat_lt s.open_calls most_calls)) ≡ false → call (go program) o vs s ≡ Faulted (refusal o t) s
  call_refused None vs s t e h = refl
  call_refused (Some b) vs s zero e h = ap (λ t. enter_with t (nat_lt s.open_calls most_calls) (body_of b vs s) s) (sym e)
  call_refused (Some b) vs s (suc t) e h =
      ap (λ t. enter_with t (nat_lt s.open_calls most_calls) (body_of b vs s) s) (sym e)
      ∙ ap (λ x. enter_with (suc t) x (body_of b vs s) s) (ap (λ y. y && nat_lt s.open_calls most_calls) (sym (lt-ltb 0 (suc t) (omega arith))) ∙ h)

  pub call_refuses : (m : Evaluator) (f : ℕ) (vs : List Value) → rests program m (mode.Enter f vs) ≡ false → Follows program m (mode.Enter f vs) m (mode.Faulted (refusal (slice_get program.functions f) m.turns))
  call_refuses m f vs h = record {
    same = λ rs. ap (resume program m.frames.items) (sym (call_refused (slice_get program.functions f) vs (state_of m rs) m.turns refl h));
    less = omega arith;
    turns = refl;
  }

  turn_refused : (t : ℕ) (k : TaskPart) (s : State) → nat_lt 0 t ≡ false → turn_with t k s ≡ Faulted TurnLimit s
  turn_refused zero k s h = refl
  turn_refused (suc t) k s h = let e = lt-ltb 0 (suc t) (omega arith) in let n : true ≡ false = sym e ∙ h in cc

  loop_refused : (l : Loop) (s : State) → nat_lt 0 s.turns ≡ false → again program l s ≡ Faulted TurnLimit s
  loop_refused (loop.While first count c b) s h = turn_refused s.turns _ s h
  loop_refused (loop.Range first count b i last) s h = turn_refused s.turns _ s h

  pub loop_refuses : (m : Evaluator) (l : Loop) → rests program m (mode.Again l) ≡ false → Follows program m (mode.Again l) m (mode.Faulted TurnLimit)
  loop_refuses m l h = record {
    same = λ rs. ap (resume program m.frames.items) (sym (loop_refused l (state_of m rs) h));
    less = omega arith;
    turns = refl;
  }

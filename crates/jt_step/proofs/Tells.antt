-- What an evaluator that stops tells.
use Rattle.std.proofs.Common.{◌≡◌, ℕ, zero, suc, ◌+◌, ◌-◌, ◌<◌, ◌≤◌, List, [], ◌∷◌, ◌++◌, length, map, drop, refl, sym, ap, ◌∙◌, subst, arith, Option, Some, None, Bool, true, false, ◌&&◌}
use Rattle.std.specs.Prelude.{nat_lt, slice_get}
use Rattle.std.proofs.Math.Seq.{drop-length}
use Rattle.jt_base.specs.declared.entry.Note.{Note}
use Rattle.jt_base.specs.declared.operation.Op.{Op}
use Rattle.jt_base.specs.declared.operation.Reply.{Reply}
use Rattle.jt_base.specs.declared.value.Value.{Value}
use Rattle.jt_base.specs.Coming.{Next, Over, op_of}
use Rattle.jt_base.specs.Jobs.{note_reply}
use Rattle.jt_base.specs.Limits.{most_calls}
use Rattle.jt_program.specs.Plan.{Plan, BodyPlan, ProgramPlan}
use Rattle.jt_program.specs.View.{plan_of, plans}
use Rattle.jt_step.specs.declared.frame.Frame.{Frame}
use Rattle.jt_step.specs.declared.frame.Frame.TheVariants as frame
use Rattle.jt_step.specs.declared.frame.Exit.{Exit}
use Rattle.jt_step.specs.declared.frame.Exit.TheVariants as exit
use Rattle.jt_step.specs.declared.frame.Loop.{Loop}
use Rattle.jt_step.specs.declared.frame.Loop.TheVariants as loop
use Rattle.jt_step.specs.declared.evaluator.Evaluator.{Evaluator}
use Rattle.jt_step.specs.declared.mode.Mode.{Mode}
use Rattle.jt_step.specs.declared.mode.Mode.TheVariants as mode
use Rattle.jt_meaning.specs.declared.start.Start.{Start}
use Rattle.jt_step.specs.declared.task.Advance.{Advance}
use Rattle.jt_meaning.specs.State.{Out, State, TaskPart, Asks, turns_of, turn_with, enter_with}
use Rattle.jt_meaning.specs.Values.{operated, unary_of, compared_by, shown, shown_with}
use Rattle.jt_meaning.specs.Meaning.{ended, gives, go, looped, call, variables_of, unless_failed, wait_all, whole}
use Rattle.jt_meaning.specs.Next.{next_of, over_with}
use Rattle.jt_step.specs.Stack.{after, exits, through, resume, state_of, at, does, again, later_of, calls, has_body, operands_in, comparisons_in, choices_in, pieces_in, waits, begins, rests, unused, RunsOn}
use Rattle.jt_step.specs.Task.{mode_tells, body_in, turned}
use Rattle.jt_step.specs.Tasks.{Task, Says, said, out_of, coming}
use Rattle.jt_step.proofs.Answers.{through_asks}
use Rattle.jt_step.specs.Falls.{bind_falls, looped_falls, left_falls, gives_falls, noticed_falls, waits_fall, unless_falls, synced_falls, turn_le, test_falls, holds_falls, bounds_falls, from_falls, run_falls, operands_falls, comparisons_falls, connection_falls, choices_falls, all_falls, arguments_falls, pieces_falls, go_falls, ended_falls}

-- ---- turns that are left

turn_less : (t : ℕ) (k : TaskPart) (s : State) → ((s : State) → turns_of (k s) ≤ s.turns) → nat_lt 0 t ≡ true → turns_of (turn_with t k s) < t
turn_less zero k s f h = absurd (cc)
turn_less (suc t) k s f h = omega (arith, f (record s { turns = t }))

enter_less : (t : ℕ) (x : Bool) (k : TaskPart) (s : State) → ((s : State) → turns_of (k s) ≤ s.turns) → (nat_lt 0 t && x) ≡ true → turns_of (enter_with t x k s) < t
enter_less zero x k s f h = absurd (cc)
enter_less (suc t) true k s f h = omega (arith, f (record s { turns = t; open_calls = s.open_calls + 1 }))
enter_less (suc t) false k s f h = both_false (nat_lt 0 (suc t)) h
  where
    both_false : (y : Bool) → (y && false) ≡ true → turns_of (enter_with (suc t) false k s) < suc t
    both_false true e = absurd (cc)
    both_false false e = absurd (cc)

exits_falls : (x : Exit) (v : Value) (s : State) → turns_of (exits x v s) ≤ s.turns
exits_falls exit.Value v s = omega arith
exits_falls exit.Return v s = omega arith

module _ (program : ProgramPlan) where
  does_falls : (e : Plan) (s : State) → turns_of (does program e s) ≤ s.turns
  does_falls = run_falls program (go program) (go_falls program)

  turned_falls : (l : Loop) (s : State) → turns_of (does program (plan_of (body_in l).now) (turned l s)) ≤ s.turns
  turned_falls (loop.While first count c b) s = does_falls (plan_of b.now) _
  turned_falls (loop.Range first count b i last) s = does_falls (plan_of b.now) _

  -- what a loop's turn does
  abbrev turn_does : Loop → TaskPart
  turn_does l s = looped (go program (later_of l)) (does program (plan_of (body_in l).now) (turned l s))

  turn_falls : (l : Loop) (s : State) → turns_of (turn_does l s) ≤ s.turns
  turn_falls l s = looped_falls (does program (plan_of (body_in l).now) (turned l s)) _ _ (turned_falls l s) ((go_falls program).by (later_of l))

  again_falls : (l : Loop) (s : State) → turns_of (again program l s) ≤ s.turns
  again_falls (loop.While first count c b) s = turn_le s.turns _ s refl (turn_falls (loop.While first count c b))
  again_falls (loop.Range first count b i last) s = turn_le s.turns _ s refl (turn_falls (loop.Range first count b i last))

  again_less : (l : Loop) (s : State) → nat_lt 0 s.turns ≡ true → turns_of (again program l s) < s.turns
  again_less (loop.While first count c b) s h = turn_less s.turns _ s (turn_falls (loop.While first count c b)) h
  again_less (loop.Range first count b i last) s h = turn_less s.turns _ s (turn_falls (loop.Range first count b i last)) h

  after_falls : (f : Frame) (o : Out) → turns_of (after program f o) ≤ turns_of o
  after_falls (frame.Assign x) o = bind_falls o _ _ (omega arith) (λ v s. omega arith)
  after_falls (frame.Define k) o = bind_falls o _ _ (omega arith) (λ v s. omega arith)
  after_falls (frame.Unary u) o = bind_falls o _ _ (omega arith) (λ v. gives_falls (unary_of u v))
  after_falls (frame.Operands es) o = bind_falls o _ _ (omega arith) (λ v. operands_falls program (go program) (go_falls program) v (operands_in es.now))
  after_falls (frame.Operand b v es) o = bind_falls o _ _ (omega arith) (λ w s. bind_falls (gives (operated b v w) s) _ _ (gives_falls (operated b v w) s) (λ x. operands_falls program (go program) (go_falls program) x (operands_in es.now)))
  after_falls (frame.Comparisons es) o = bind_falls o _ _ (omega arith) (λ v. comparisons_falls program (go program) (go_falls program) v (comparisons_in es.now))
  after_falls (frame.Compared c v es) o = bind_falls o _ _ (omega arith) (λ w. holds_falls (compared_by c v w) _ (comparisons_falls program (go program) (go_falls program) w (comparisons_in es.now)))
  after_falls (frame.Connection c es) o = bind_falls o _ _ (omega arith) (λ v. connection_falls program (go program) (go_falls program) c v (plans es.now))
  after_falls (frame.Choice e arms otherwise) o = bind_falls o _ _ (omega arith) (λ v. test_falls v _ _ (does_falls (plan_of e.now)) (choices_falls program (go program) (go_falls program) (choices_in arms.now) _ (does_falls (plan_of otherwise.now))))
  after_falls (frame.Rest es) o = bind_falls o _ _ (omega arith) (λ v. all_falls program (go program) (go_falls program) v (plans es.now))
  after_falls (frame.Condition first count c b) o = bind_falls o _ _ (omega arith) (λ v. test_falls v _ _ (again_falls (loop.While first count c b)) (λ s. omega arith))
  after_falls (frame.Low first count high b) o = bind_falls o _ _ (omega arith) (λ v s. bind_falls (does program (plan_of high.now) s) _ _ (does_falls (plan_of high.now) s) (bounds_falls _ (from_falls (go program) first count (plan_of b.now) (does program (plan_of b.now)) (go_falls program) (does_falls (plan_of b.now))) v))
  after_falls (frame.High first count low b) o = bind_falls o _ _ (omega arith) (bounds_falls _ (from_falls (go program) first count (plan_of b.now) (does program (plan_of b.now)) (go_falls program) (does_falls (plan_of b.now))) low)
  after_falls (frame.Loop l) o = looped_falls o _ _ (omega arith) ((go_falls program).by (later_of l))
  after_falls (frame.Arguments f es vs) o = bind_falls o _ _ (omega arith) (λ v. arguments_falls program (go program) (go_falls program) f (vs ++ v ∷ []) (plans es.now))
  after_falls (frame.Pieces ps text) o = bind_falls o _ _ (omega arith) (λ v. pieces_falls program (go program) (go_falls program) (shown_with text (shown v)) (pieces_in ps.now))
  after_falls (frame.Call variables n) o = left_falls o variables n _ (omega arith)
  after_falls (frame.Sync outer) o = synced_falls outer o _ (omega arith)
  after_falls (frame.Waiting w) o = noticed_falls w.fault (λ f. wait_all (drop w.next w.paths) f (unless_failed (exits w.exit w.value))) o _ (omega arith) (λ f s. waits_fall (drop w.next w.paths) f (unless_failed (exits w.exit w.value)) s (λ g s. unless_falls (exits w.exit w.value) g s (exits_falls w.exit w.value)))
  after_falls frame.Return o = bind_falls o _ _ (omega arith) (λ v s. omega arith)

  through_falls : (fs : List Frame) (o : Out) → turns_of (through program fs o) ≤ turns_of o
  through_falls [] o = omega arith
  through_falls (f ∷ fs) o = omega (arith, after_falls f (through program fs o), through_falls fs o)

  resume_falls : (fs : List Frame) (o : Out) → turns_of (resume program fs o) ≤ turns_of o
  resume_falls fs o = ended_falls (through program fs o) _ (through_falls fs o)

  call_less : (o : Option BodyPlan) (vs : List Value) (s : State) → (has_body o && (nat_lt 0 s.turns && nat_lt s.open_calls most_calls)) ≡ true → turns_of (call (go program) o vs s) < s.turns
  call_less None vs s h = absurd (cc)
  call_less (Some b) vs s h = enter_less s.turns (nat_lt s.open_calls most_calls) _ s (λ s2. left_falls (go program (whole b.code) (record s2 { variables = variables_of b vs })) _ _ s2.turns ((go_falls program).by (whole b.code) (record s2 { variables = variables_of b vs }))) h

  -- where a turn begins next, fewer turns are left at the end
  begun_falls : (m : Evaluator) (md : Mode) (rs : List Reply) → begins program m md ≡ true → turns_of (at program m md rs) < m.turns
  begun_falls m (mode.Enter f vs) rs h = omega (arith, resume_falls m.frames.items (calls program f vs (state_of m rs)), call_less (slice_get program.functions f) vs (state_of m rs) h)
  begun_falls m (mode.Again l) rs h = omega (arith, resume_falls m.frames.items (again program l (state_of m rs)), again_less l (state_of m rs) h)
  begun_falls m (mode.Begins e) rs h = absurd (cc)
  begun_falls m (mode.Eval e) rs h = absurd (cc)
  begun_falls m (mode.Gave v) rs h = absurd (cc)
  begun_falls m (mode.Returned v) rs h = absurd (cc)
  begun_falls m mode.Broke rs h = absurd (cc)
  begun_falls m mode.Continued rs h = absurd (cc)
  begun_falls m (mode.Faulted f) rs h = absurd (cc)
  begun_falls m (mode.Waits o start) rs h = absurd (cc)
  begun_falls m (mode.Ending v) rs h = absurd (cc)
  begun_falls m (mode.Failing f) rs h = absurd (cc)
  begun_falls m mode.Over rs h = absurd (cc)
  begun_falls m mode.Unfit rs h = absurd (cc)

-- ---- what is said

module _ (program : ProgramPlan) where
  asks_tells : (m : Evaluator) (o : Op) (start : Option Start) → at program m (mode.Waits o start) [] ≡ Asks o start (state_of m [])
  asks_tells m o start = ap ended (through_asks program m.frames.items o start (state_of m []))

  -- an operation that waits comes next
  waits_tell : (m : Evaluator) (md : Mode) → waits md ≡ true → (mode_tells md ≡ next_of (at program m md [])) × (turns_of (at program m md []) ≡ m.turns)
  waits_tell m (mode.Waits o None) h = (sym (ap next_of (asks_tells m o None)), ap turns_of (asks_tells m o None))
  waits_tell m (mode.Waits o (Some start)) h = (sym (ap next_of (asks_tells m o (Some start))), ap turns_of (asks_tells m o (Some start)))
  waits_tell m (mode.Begins e) h = (refl, refl)
  waits_tell m (mode.Ending v) h = (refl, refl)
  waits_tell m (mode.Failing f) h = (refl, refl)
  waits_tell m (mode.Eval e) h = absurd (cc)
  waits_tell m (mode.Gave v) h = absurd (cc)
  waits_tell m (mode.Returned v) h = absurd (cc)
  waits_tell m mode.Broke h = absurd (cc)
  waits_tell m mode.Continued h = absurd (cc)
  waits_tell m (mode.Faulted f) h = absurd (cc)
  waits_tell m (mode.Enter f vs) h = absurd (cc)
  waits_tell m (mode.Again l) h = absurd (cc)
  waits_tell m mode.Over h = absurd (cc)
  waits_tell m mode.Unfit h = absurd (cc)

  waiting_tells : (m : Evaluator) (md : Mode) (rs : List Reply) (n : Next Start) → waits md ≡ true → rs ≡ [] → next_of (at program m md rs) ≡ Some n → (mode_tells md ≡ Some n) × (turns_of (at program m md rs) ≡ m.turns)
  waiting_tells m md rs n w z e =
      let t = waits_tell m md w in
      (t.0 ∙ ap (λ rs. next_of (at program m md rs)) (sym z) ∙ e, ap (λ rs. turns_of (at program m md rs)) z ∙ t.1)

  over_tells : (rs : List Reply) (n : Next Start) → over_with rs ≡ Some n → Some Over ≡ Some n
  over_tells [] n e = e
  over_tells (r ∷ rs) n e = cc

  -- an evaluator at rest, where no turn begins, tells what comes next
  settled_tells : (m : Evaluator) (md : Mode) (rs : List Reply) (n : Next Start) → rests program m md ≡ true → begins program m md ≡ false → (waits md ≡ true → rs ≡ []) → next_of (at program m md rs) ≡ Some n → (mode_tells md ≡ Some n) × (turns_of (at program m md rs) ≡ m.turns)
  settled_tells m (mode.Waits o start) rs n r b w e = waiting_tells m (mode.Waits o start) rs n refl (w refl) e
  settled_tells m (mode.Begins c) rs n r b w e = waiting_tells m (mode.Begins c) rs n refl (w refl) e
  settled_tells m (mode.Ending v) rs n r b w e = waiting_tells m (mode.Ending v) rs n refl (w refl) e
  settled_tells m (mode.Failing f) rs n r b w e = waiting_tells m (mode.Failing f) rs n refl (w refl) e
  settled_tells m mode.Over rs n r b w e = (over_tells rs n e, refl)
  settled_tells m mode.Unfit rs n r b w e = absurd (cc)
  settled_tells m (mode.Enter f vs) rs n r b w e = absurd (cc)
  settled_tells m (mode.Again l) rs n r b w e = absurd (cc)
  settled_tells m (mode.Eval c) rs n r b w e = absurd (cc)
  settled_tells m (mode.Gave v) rs n r b w e = absurd (cc)
  settled_tells m (mode.Returned v) rs n r b w e = absurd (cc)
  settled_tells m mode.Broke rs n r b w e = absurd (cc)
  settled_tells m mode.Continued rs n r b w e = absurd (cc)
  settled_tells m (mode.Faulted f) rs n r b w e = absurd (cc)

  begun_tells : (m : Evaluator) (md : Mode) → begins program m md ≡ true → mode_tells md ≡ None
  begun_tells m (mode.Enter f vs) h = refl
  begun_tells m (mode.Again l) h = refl
  begun_tells m (mode.Begins e) h = cc
  begun_tells m (mode.Eval e) h = refl
  begun_tells m (mode.Gave v) h = refl
  begun_tells m (mode.Returned v) h = refl
  begun_tells m mode.Broke h = refl
  begun_tells m mode.Continued h = refl
  begun_tells m (mode.Faulted f) h = refl
  begun_tells m (mode.Waits o start) h = cc
  begun_tells m (mode.Ending v) h = cc
  begun_tells m (mode.Failing f) h = cc
  begun_tells m mode.Over h = cc
  begun_tells m mode.Unfit h = refl

  op_waits : (md : Mode) (o : Op) → op_of (mode_tells md) ≡ Some o → waits md ≡ true
  op_waits (mode.Begins e) o h = refl
  op_waits (mode.Waits p start) o h = refl
  op_waits (mode.Ending v) o h = refl
  op_waits (mode.Failing f) o h = refl
  op_waits (mode.Eval e) o h = cc
  op_waits (mode.Gave v) o h = cc
  op_waits (mode.Returned v) o h = cc
  op_waits mode.Broke o h = cc
  op_waits mode.Continued o h = cc
  op_waits (mode.Faulted f) o h = cc
  op_waits (mode.Enter f vs) o h = cc
  op_waits (mode.Again l) o h = cc
  op_waits mode.Over o h = cc
  op_waits mode.Unfit o h = cc

unused_all : (log : List Note) (used : ℕ) → used ≡ length log → unused log used ++ [] ≡ []
unused_all log used e = ap (λ n. map note_reply (drop n log) ++ []) e ∙ ap (λ l. map note_reply l ++ []) (drop-length log)

module _ (program : ProgramPlan) where
  -- a run of the evaluator tells what the meaning tells
  pub run_says : (m m' : Evaluator) (md md' : Mode) (t : Task) (used used' turns : ℕ) (a : Advance) → m.turns ≤ t.run.limits.turns → t.taken ≡ t.run.limits.turns - m.turns → at program m md (unused t.log used ++ []) ≡ out_of t → RunsOn program t.log turns m used md m' used' md' → said a ≡ mode_tells md' → Says t turns a (t.run.limits.turns - m'.turns)
  run_says m m' md md' t used used' turns a few k same r y = go_on (begins program m' md') refl
    where
      here : at program m' md' (unused t.log used' ++ []) ≡ out_of t
      here = r.same [] ∙ same

      go_on : (b : Bool) → begins program m' md' ≡ b → Says t turns a (t.run.limits.turns - m'.turns)
      go_on true e =
          let f = begun_falls program m' md' (unused t.log used' ++ []) e in
          let g : turns_of (out_of t) < m'.turns = subst (λ o. turns_of o < m'.turns) here f in
          record {
            more = λ x c lt. (y ∙ begun_tells program m' md' e, omega (arith, r.spent e, r.fewer));
            stops = λ x c le. absurd (omega (arith, r.spent e, r.fewer));
          }
      go_on false e = record {
        more = λ x c lt. let s = settled_tells program m' md' (unused t.log used' ++ []) x r.rested e (λ w. unused_all t.log used' (r.all e w)) (ap next_of here ∙ c) in let u : turns_of (out_of t) ≡ m'.turns = ap turns_of (sym here) ∙ s.1 in absurd (omega (arith, r.most, r.fewer));
        stops = λ x c le. let s = settled_tells program m' md' (unused t.log used' ++ []) x r.rested e (λ w. unused_all t.log used' (r.all e w)) (ap next_of here ∙ c) in let u : turns_of (out_of t) ≡ m'.turns = ap turns_of (sym here) ∙ s.1 in (y ∙ s.0, omega arith);
      }

  -- an operation that is said comes next
  pub said_comes : (m m' : Evaluator) (md md' : Mode) (t : Task) (used used' turns : ℕ) (a : Advance) (o : Op) → at program m md (unused t.log used ++ []) ≡ out_of t → RunsOn program t.log turns m used md m' used' md' → said a ≡ mode_tells md' → op_of (said a) ≡ Some o → coming t ≡ said a
  said_comes m m' md md' t used used' turns a o same r y h = comes (begins program m' md') refl
    where
      w : waits md' ≡ true
      w = op_waits program md' o (ap op_of (sym y) ∙ h)

      comes : (b : Bool) → begins program m' md' ≡ b → coming t ≡ said a
      comes true e = let n : None ≡ Some o = ap op_of (sym (begun_tells program m' md' e)) ∙ ap op_of (sym y) ∙ h in cc
      comes false e =
          ap next_of (sym (r.same [] ∙ same))
          ∙ ap (λ rs. next_of (at program m' md' rs)) (unused_all t.log used' (r.all e w))
          ∙ sym (waits_tell program m' md' w).0
          ∙ sym y

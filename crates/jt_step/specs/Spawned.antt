-- One reply more for a whole task: an operation that ends it closes it, another one lets it go on; and
-- each spawn makes the child of the next number.
use Rattle.std.proofs.Common.{◌≡◌, ℕ, ◌+◌, ◌≤◌, List, [], ◌∷◌, ◌++◌, Option, Some, None, Bool, true, false, length, refl, sym, subst, arith}
use Rattle.std.proofs.lemmas.List.{append-nil, append_assoc}
use Rattle.std.specs.Prelude.{slice_get}
use Rattle.jt_base.specs.declared.value.Value.{Value}
use Rattle.jt_base.specs.declared.operation.Fault.{Fault}
use Rattle.jt_base.specs.declared.operation.Fault.TheVariants.{Method}
use Rattle.jt_base.specs.declared.operation.Op.{Op}
use Rattle.jt_base.specs.declared.operation.Op.TheVariants.{Begin, End, Fail}
use Rattle.jt_base.specs.declared.operation.Reply.{Reply}
use Rattle.jt_base.specs.declared.operation.Reply.TheVariants as reply
use Rattle.jt_base.specs.Coming.{op_of, is_spawn, one_spawn, spawned_from, spawned_by}
use Rattle.jt_laws.specs.Entries.{ends}
use Rattle.jt_laws.specs.Replies.{can_reply}
use Rattle.jt_program.specs.Plan.{BodyPlan, ProgramPlan}
use Rattle.jt_meaning.specs.declared.start.Start.{Start}
use Rattle.jt_meaning.specs.State as state
use Rattle.jt_meaning.specs.State.{State, Out, Gave, Returned, Broke, Continued, Faulted, Asks, Unfit, bind, Given, given, answered, ask, ask_with}
use Rattle.jt_meaning.specs.Meaning.{variables_of, whole, go, ended, task_of, beginning, task}
use Rattle.jt_meaning.specs.Run.{Run}
use Rattle.jt_meaning.specs.Next.{next_of, next_operation}
use Rattle.jt_step.specs.Tasks.{ComesAfter}
use Rattle.jt_step.specs.Fine.{Reach, Left, AsksFor, Fine, go_fine}
use Rattle.jt_step.specs.More.{plus, after, More, go_more}

-- ---- what a task asks

-- nothing is asked
abbrev pub Closed : Out → Type 0
Closed (Gave v s) = Unit {0}
Closed (Returned v s) = Unit {0}
Closed (Broke s) = Unit {0}
Closed (Continued s) = Unit {0}
Closed (Faulted f s) = Unit {0}
Closed (Asks op start s) = ⊥
Closed Unfit = Unit {0}

answered_closed : (g : Given) (s : State) → Closed (answered g s)
answered_closed (state.value v) s = tt
answered_closed (state.fault f) s = tt
answered_closed state.unfit s = tt

module _ (program : ProgramPlan) where
  -- a spawn that is asked makes the next task
  abbrev pub Comes : Reach → Out → Type 0
  Comes w (Gave v s) = Unit {0}
  Comes w (Returned v s) = Unit {0}
  Comes w (Broke s) = Unit {0}
  Comes w (Continued s) = Unit {0}
  Comes w (Faulted f s) = Unit {0}
  Comes w (Asks op start s) = AsksFor program w op start s × (s.path ≡ w.path)
  Comes w Unfit = Unit {0}

  closed_comes : (w : Reach) (o : Out) → Closed o → Comes w o
  closed_comes w (Gave v s) h = tt
  closed_comes w (Returned v s) h = tt
  closed_comes w (Broke s) h = tt
  closed_comes w (Continued s) h = tt
  closed_comes w (Faulted f s) h = tt
  closed_comes w (Asks op start s) h = absurd h
  closed_comes w Unfit h = tt

  last_comes : (w : Reach) (op : Op) (s : State) (rs : List Reply) → is_spawn op ≡ false → Left program w s → Comes w (ask_with op None s rs)
  last_comes w op s [] e h = ((e, h.2), h.1)
  last_comes w op s (r ∷ rs) e h = closed_comes w (answered (given op r) (record s { replies = rs })) (answered_closed (given op r) (record s { replies = rs }))

  ended_comes : (w : Reach) (o : Out) → Fine program w o → Comes w (ended o)
  ended_comes w (Gave v s) h = last_comes w (End v) s s.replies refl h
  ended_comes w (Returned v s) h = last_comes w (End v) s s.replies refl h
  ended_comes w (Broke s) h = last_comes w (Fail Method) s s.replies refl h
  ended_comes w (Continued s) h = last_comes w (Fail Method) s s.replies refl h
  ended_comes w (Faulted f s) h = last_comes w (Fail f) s s.replies refl h
  ended_comes w (Asks op start s) h = (h.kind, h.here)
  ended_comes w Unfit h = tt

  -- with no replies left a task asks an operation
  last_asks : (op : Op) (s : State) (rs : List Reply) → length rs ≤ 0 → (q : Op) × (op_of (next_of (ask_with op None s rs)) ≡ Some q)
  last_asks op s [] h = (op, refl)
  last_asks op s (r ∷ rs) h = absurd (omega arith)

  asks : (op : Op) (start : Option Start) (s : State) → op_of (next_of (Asks op start s)) ≡ Some op
  asks op None s = refl
  asks op (Some start) s = refl

  ended_asks : (w : Reach) (o : Out) → w.replies ≡ 0 → w.fits ≡ true → Fine program w o → (q : Op) × (op_of (next_of (ended o)) ≡ Some q)
  ended_asks w (Gave v s) z f h = last_asks (End v) s s.replies (omega (arith, h.0, z))
  ended_asks w (Returned v s) z f h = last_asks (End v) s s.replies (omega (arith, h.0, z))
  ended_asks w (Broke s) z f h = last_asks (Fail Method) s s.replies (omega (arith, h.0, z))
  ended_asks w (Continued s) z f h = last_asks (Fail Method) s s.replies (omega (arith, h.0, z))
  ended_asks w (Faulted g s) z f h = last_asks (Fail g) s s.replies (omega (arith, h.0, z))
  ended_asks w (Asks op start s) z f h = (op, asks op start s)
  ended_asks w Unfit z f h = absurd (omega (arith, h f, z))

  -- ---- one reply more

  -- what comes of the reply to an operation
  pub record After (r : Reply) (op : Op) (s : State) (o : Out) : Type 0 where
    pub comes : Comes (after r op s) o
    pub closes : ends op ≡ true → Closed o
    pub further : can_reply op r ≡ true → ComesAfter (ends op) (next_of o)

  -- the outcome with one reply more, by that without it
  abbrev pub OneMore : Reply → Out → Out → Type 0
  OneMore r (Gave v s) o = Closed o
  OneMore r (Returned v s) o = Closed o
  OneMore r (Broke s) o = Closed o
  OneMore r (Continued s) o = Closed o
  OneMore r (Faulted f s) o = Closed o
  OneMore r (Asks op start s) o = After r op s o
  OneMore r Unfit o = Closed o

  answered_one : (r : Reply) (g : Given) (s : State) → OneMore r (answered g s) (answered g (plus r s))
  answered_one r (state.value v) s = tt
  answered_one r (state.fault f) s = tt
  answered_one r state.unfit s = tt

  end_after : (r : Reply) (v : Value) (s : State) → After r (End v) s (answered (given (End v) r) (record s { replies = [] }))
  end_after reply.Ok v s = record { comes = tt; closes = λ e. tt; further = λ c. refl }
  end_after r v s = record { comes = tt; closes = λ e. tt; further = λ c. absurd (cc) }

  fail_after : (r : Reply) (f : Fault) (s : State) → After r (Fail f) s (answered (given (Fail f) r) (record s { replies = [] }))
  fail_after reply.Ok f s = record { comes = tt; closes = λ e. tt; further = λ c. refl }
  fail_after r f s = record { comes = tt; closes = λ e. tt; further = λ c. absurd (cc) }

  module _ (r : Reply) where
    end_more : (v : Value) (s : State) (rs : List Reply) → OneMore r (ask_with (End v) None s rs) (ask_with (End v) None (plus r s) (rs ++ r ∷ []))
    end_more v s [] = end_after r v s
    end_more v s (x ∷ rs) = answered_one r (given (End v) x) (record s { replies = rs })

    fail_more : (f : Fault) (s : State) (rs : List Reply) → OneMore r (ask_with (Fail f) None s rs) (ask_with (Fail f) None (plus r s) (rs ++ r ∷ []))
    fail_more f s [] = fail_after r f s
    fail_more f s (x ∷ rs) = answered_one r (given (Fail f) x) (record s { replies = rs })

    ended_more : (w : Reach) (o o' : Out) → Fine program w o → More r program o o' → OneMore r (ended o) (ended o')
    ended_more w (Gave v s) o' f m = subst (λ x. OneMore r (ended (Gave v s)) (ended x)) (sym m) (end_more v s s.replies)
    ended_more w (Returned v s) o' f m = subst (λ x. OneMore r (ended (Returned v s)) (ended x)) (sym m) (end_more v s s.replies)
    ended_more w (Broke s) o' f m = subst (λ x. OneMore r (ended (Broke s)) (ended x)) (sym m) (fail_more Method s s.replies)
    ended_more w (Continued s) o' f m = subst (λ x. OneMore r (ended (Continued s)) (ended x)) (sym m) (fail_more Method s s.replies)
    ended_more w (Faulted g s) o' f m = subst (λ x. OneMore r (ended (Faulted g s)) (ended x)) (sym m) (fail_more g s s.replies)
    ended_more w (Asks op start s) o' f m = record {
      comes = ended_comes (after r op s) o' m;
      closes = λ e. let g = f.further in absurd (cc);
      further = λ c. subst (λ b. ComesAfter b (next_of (ended o'))) (sym f.further) (ended_asks (after r op s) o' refl c m);
    }
    ended_more w Unfit o' f m = subst (λ x. Closed (ended x)) (sym m) tt

  module _ (b : BodyPlan) where
    -- what a task does once it has begun
    abbrev on : Value → State → Out
    on v s = ended (go program (whole b.code) s)

    begin_after : (r : Reply) (s : State) → After r Begin s (bind (answered (given Begin r) (record s { replies = [] })) on)
    begin_after reply.Ok s =
        let f = go_fine program (after reply.Ok Begin s) (whole b.code) (record s { replies = [] }) (omega arith, refl, λ z. refl) in
        record {
          comes = ended_comes (after reply.Ok Begin s) (go program (whole b.code) (record s { replies = [] })) f;
          closes = λ e. absurd (cc);
          further = λ c. ended_asks (after reply.Ok Begin s) (go program (whole b.code) (record s { replies = [] })) refl c f;
        }
    begin_after r s = record { comes = tt; closes = λ e. tt; further = λ c. absurd (cc) }

    begun_more : (r : Reply) (g : Given) (s : State) → OneMore r (bind (answered g s) on) (bind (answered g (plus r s)) on)
    begun_more r (state.value v) s =
        let w : Reach = record { path = s.path; replies = length s.replies; made = s.spawned; fits = false } in
        ended_more r w (go program (whole b.code) s) (go program (whole b.code) (plus r s)) (go_fine program w (whole b.code) s (omega arith, refl, λ z. refl)) (go_more r program (whole b.code) s)
    begun_more r (state.fault f) s = tt
    begun_more r state.unfit s = tt

    begin_more : (r : Reply) (s : State) (rs : List Reply) → OneMore r (bind (ask_with Begin None s rs) on) (bind (ask_with Begin None (plus r s) (rs ++ r ∷ [])) on)
    begin_more r s [] = begin_after r s
    begin_more r s (x ∷ rs) = begun_more r (given Begin x) (record s { replies = rs })

  task_more : (r : Reply) (o : Option BodyPlan) (captured : List Value) (s : State) → OneMore r (task_of program o captured s) (task_of program o captured (plus r s))
  task_more r None captured s = tt
  task_more r (Some b) captured s = begin_more b r (record s { variables = variables_of b captured }) s.replies

  -- ---- the tasks that were made

  module _ (path : List ℕ) where
    -- with no replies left, behind so many spawns
    abbrev pub behind : ℕ → Bool → Reach
    behind n fits = record { path = path; replies = 0; made = n; fits = fits }

    -- so many spawns were answered
    abbrev pub HasMade : ℕ → Out → Type 0
    HasMade n o = (fits : Bool) × Comes (behind n fits) o

    closed_made : (n : ℕ) (o : Out) → Closed o → HasMade n o
    closed_made n o h = (true, closed_comes (behind n true) o h)

    made_after : (r : Reply) (op : Op) (s : State) (n : ℕ) (o : Out) → s.path ≡ path → s.spawned ≡ n → After r op s o → HasMade n o
    made_after r op s n o p e a = (
      can_reply op r,
      subst (λ q. Comes (record { path = q; replies = 0; made = n; fits = can_reply op r }) o) p
          (subst (λ m. Comes (record { path = s.path; replies = 0; made = m; fits = can_reply op r }) o) e a.comes),
    )

    made_more : (r : Reply) (n : ℕ) (o o' : Out) → HasMade n o → OneMore r o o' → HasMade (n + one_spawn (next_of o)) o'
    made_more r n (Asks op None s) o' m a = made_after r op s (n + 0) o' m.1.1 (let e = m.1.0.1 refl in omega (arith, e)) a
    made_more r n (Asks op (Some start) s) o' m a =
        made_after r op s (n + 1) o' m.1.1 (let e = m.1.0.follows refl in omega (arith, e, m.1.0.counts)) a
    made_more r n (Gave v s) o' m a = closed_made (n + one_spawn (next_of (Gave v s))) o' a
    made_more r n (Returned v s) o' m a = closed_made (n + 0) o' a
    made_more r n (Broke s) o' m a = closed_made (n + 0) o' a
    made_more r n (Continued s) o' m a = closed_made (n + 0) o' a
    made_more r n (Faulted f s) o' m a = closed_made (n + 0) o' a
    made_more r n Unfit o' m a = closed_made (n + 0) o' a

-- ---- from a task's beginning

module _ (run : Run) (path : List ℕ) (start : Start) where
  abbrev outcome : List Reply → Out
  outcome rs = task run path start rs

  pub one_more : (rs : List Reply) (r : Reply) → OneMore run.program r (outcome rs) (outcome (rs ++ r ∷ []))
  one_more rs r = task_more run.program r (slice_get run.program.tasks start.code) start.captured (beginning run.program run.limits.turns path start rs)

  made_first : (o : Option BodyPlan) → HasMade run.program path 0 (task_of run.program o start.captured (beginning run.program run.limits.turns path start []))
  made_first None = (true, tt)
  made_first (Some b) = (true, ((refl, λ z. refl), refl))

  made_from : (before rs : List Reply) (n : ℕ) → HasMade run.program path n (outcome before) → HasMade run.program path (n + spawned_from (next_operation run path start) before rs) (outcome (before ++ rs))
  made_from before [] n m = subst (λ l. HasMade run.program path (n + 0) (outcome l)) (sym (append-nil before)) (subst (λ k. HasMade run.program path k (outcome before)) (omega arith) m)
  made_from before (r ∷ rs) n m =
      let one : ℕ = one_spawn (next_operation run path start before) in
      let rest : ℕ = spawned_from (next_operation run path start) (before ++ r ∷ []) rs in
      let here = made_from (before ++ r ∷ []) rs (n + one) (made_more run.program path r n (outcome before) (outcome (before ++ r ∷ [])) m (one_more before r)) in
      subst (λ k. HasMade run.program path k (outcome (before ++ r ∷ rs))) (omega arith) (subst (λ l. HasMade run.program path (n + one + rest) (outcome l)) (append_assoc before (r ∷ []) rs) here)

  pub made_by : (rs : List Reply) → HasMade run.program path (spawned_by (next_operation run path start) rs) (outcome rs)
  made_by rs = subst (λ k. HasMade run.program path k (outcome rs)) (omega arith) (made_from [] rs 0 (made_first (slice_get run.program.tasks start.code)))

  -- what is closed stays so
  closed_more : (r : Reply) (o o' : Out) → Closed o → OneMore run.program r o o' → Closed o'
  closed_more r (Gave v s) o' h a = a
  closed_more r (Returned v s) o' h a = a
  closed_more r (Broke s) o' h a = a
  closed_more r (Continued s) o' h a = a
  closed_more r (Faulted f s) o' h a = a
  closed_more r (Asks op s t) o' h a = absurd h
  closed_more r Unfit o' h a = a

  pub closed_from : (before rs : List Reply) → Closed (outcome before) → Closed (outcome (before ++ rs))
  closed_from before [] h = subst (λ l. Closed (outcome l)) (sym (append-nil before)) h
  closed_from before (r ∷ rs) h =
      subst (λ l. Closed (outcome l)) (append_assoc before (r ∷ []) rs)
      (closed_from (before ++ r ∷ []) rs (closed_more r (outcome before) (outcome (before ++ r ∷ [])) h (one_more before r)))

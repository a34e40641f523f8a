-- What holds of the operations of every task.
use Rattle.std.proofs.Common.{◌≡◌, ℕ, ◌<◌, List, [], ◌∷◌, ◌++◌, Option, Some, None, true, false, length, refl, ap, ◌∙◌, subst, inl, inr, arith}
use Rattle.std.proofs.lemmas.List.{append_assoc}
use Rattle.std.specs.Prelude.{slice_get}
use Rattle.jt_base.specs.declared.value.Value.{Value}
use Rattle.jt_base.specs.declared.operation.Fault.TheVariants.{Method}
use Rattle.jt_base.specs.declared.operation.Op.{Op}
use Rattle.jt_base.specs.declared.operation.Op.TheVariants.{Begin, End, Fail, Spawn}
use Rattle.jt_base.specs.declared.operation.Reply.{Reply}
use Rattle.jt_base.specs.Coming.{Next, Needs, Spawns, SpawnsChild, op_of, is_spawn, spawned_by}
use Rattle.jt_laws.specs.Entries.{ends}
use Rattle.jt_laws.specs.Replies.{can_reply}
use Rattle.jt_program.specs.Plan.{BodyPlan, ProgramPlan}
use Rattle.jt_meaning.specs.declared.start.Start.{Start}
use Rattle.jt_meaning.specs.State as state
use Rattle.jt_meaning.specs.State.{State, Out, Gave, Returned, Broke, Continued, Faulted, Asks, Unfit, bind, Given, given, answered, ask_with}
use Rattle.jt_meaning.specs.Meaning.{variables_of, whole, go, ended, task_of, beginning, task}
use Rattle.jt_meaning.specs.Run.{Run}
use Rattle.jt_meaning.specs.Next.{next_of, over_with, next_operation, IsLater}
use Rattle.jt_step.specs.Tasks.{ComesAfter, IsTaskOp}
use Rattle.jt_step.specs.Fine.{Reach, Fine, go_fine}
use Rattle.jt_step.specs.Spawned.{Closed, OneMore, HasMade, made_by, one_more, closed_from}

-- ---- the first operation

-- a task begins with Begin
pub first_operation : (run : Run) (path : List ℕ) (start : Start) (n : Next Start) → next_operation run path start [] ≡ Some n → n ≡ Needs Begin
first_operation run path start n e = by_body (slice_get run.program.tasks start.code) e
  where
    by_body : (o : Option BodyPlan) → next_of (task_of run.program o start.captured (beginning run.program run.limits.turns path start [])) ≡ Some n → n ≡ Needs Begin
    by_body None h = cc
    by_body (Some b) h = cc

-- and it does begin where it has a body
pub begins : (run : Run) (path : List ℕ) (start : Start) (b : BodyPlan) → slice_get run.program.tasks start.code ≡ Some b → next_operation run path start [] ≡ Some (Needs Begin)
begins run path start b e = ap (λ o. next_of (task_of run.program o start.captured (beginning run.program run.limits.turns path start []))) e

-- ---- the others

-- what is asked comes once the task has begun
abbrev Later : Out → Type 0
Later (Gave v s) = Unit {0}
Later (Returned v s) = Unit {0}
Later (Broke s) = Unit {0}
Later (Continued s) = Unit {0}
Later (Faulted f s) = Unit {0}
Later (Asks op start s) = IsLater op
Later Unfit = Unit {0}

answered_later : (g : Given) (s : State) → Later (answered g s)
answered_later (state.value v) s = tt
answered_later (state.fault f) s = tt
answered_later state.unfit s = tt

last_later : (op : Op) (s : State) (rs : List Reply) → IsLater op → Later (ask_with op None s rs)
last_later op s [] h = h
last_later op s (r ∷ rs) h = answered_later (given op r) (record s { replies = rs })

ended_later : (p : ProgramPlan) (w : Reach) (o : Out) → Fine p w o → Later (ended o)
ended_later p w (Gave v s) h = last_later (End v) s s.replies tt
ended_later p w (Returned v s) h = last_later (End v) s s.replies tt
ended_later p w (Broke s) h = last_later (Fail Method) s s.replies tt
ended_later p w (Continued s) h = last_later (Fail Method) s s.replies tt
ended_later p w (Faulted f s) h = last_later (Fail f) s s.replies tt
ended_later p w (Asks op start s) h = h.later
ended_later p w Unfit h = tt

begun_later : (p : ProgramPlan) (b : BodyPlan) (g : Given) (s : State) → Later (bind (answered g s) (λ v s. ended (go p (whole b.code) s)))
begun_later p b (state.value v) s =
    let w : Reach = record { path = s.path; replies = length s.replies; made = s.spawned; fits = false } in
    ended_later p w (go p (whole b.code) s) (go_fine p w (whole b.code) s (omega arith, refl, λ z. refl))
begun_later p b (state.fault f) s = tt
begun_later p b state.unfit s = tt

task_later : (p : ProgramPlan) (o : Option BodyPlan) (captured : List Value) (s : State) (r : Reply) (rs : List Reply) → Later (task_of p o captured (record s { replies = r ∷ rs }))
task_later p None captured s r rs = tt
task_later p (Some b) captured s r rs = begun_later p b (given Begin r) (record s { variables = variables_of b captured; replies = rs })

over_asks : (rs : List Reply) (op : Op) → op_of (over_with rs) ≡ Some op → ⊥
over_asks [] op e = cc
over_asks (r ∷ rs) op e = cc

-- an operation that comes is asked
asked_is : (q op : Op) (start : Option Start) (s : State) → op_of (next_of (Asks q start s)) ≡ Some op → q ≡ op
asked_is q op None s e = cc
asked_is q op (Some start) s e = cc

later_is : (o : Out) (op : Op) → Later o → op_of (next_of o) ≡ Some op → IsLater op
later_is (Asks q start s) op h e = subst IsLater (asked_is q op start s e) h
later_is (Gave v s) op h e = absurd (over_asks s.replies op e)
later_is (Returned v s) op h e = absurd (cc)
later_is (Broke s) op h e = absurd (cc)
later_is (Continued s) op h e = absurd (cc)
later_is (Faulted f s) op h e = absurd (cc)
later_is Unfit op h e = absurd (cc)

-- once it has begun, it prints, acts on tasks, ends or fails
pub later_operation : (run : Run) (path : List ℕ) (start : Start) (r : Reply) (rs : List Reply) (op : Op) → op_of (next_operation run path start (r ∷ rs)) ≡ Some op → IsLater op
later_operation run path start r rs op e =
    later_is (task run path start (r ∷ rs)) op (task_later run.program (slice_get run.program.tasks start.code) start.captured (beginning run.program run.limits.turns path start []) r rs) e

-- before, it begins
pub task_operation : (run : Run) (path : List ℕ) (start : Start) (rs : List Reply) (op : Op) → op_of (next_operation run path start rs) ≡ Some op → IsTaskOp op
task_operation run path start [] op e = inl (by_next (next_operation run path start []) (first_operation run path start) e)
  where
    begin_is : (n : Next Start) → n ≡ Needs Begin → op_of (Some n) ≡ Some op → op ≡ Begin
    begin_is n h e = cc

    by_next : (o : Option (Next Start)) → ((n : Next Start) → o ≡ Some n → n ≡ Needs Begin) → op_of o ≡ Some op → op ≡ Begin
    by_next None f e = cc
    by_next (Some n) f e = begin_is n (f n refl) e
task_operation run path start (r ∷ rs) op e = inr (later_operation run path start r rs op e)

-- ---- the making of tasks

-- the child of this number, with a body that the program has
pub record MakesChild (p : ProgramPlan) (path : List ℕ) (k : ℕ) (op : Op) (child : Start) : Type 0 where
  pub names : op ≡ Spawn (path ++ k ∷ []) child.how
  pub body : child.code < length p.tasks

module _ (p : ProgramPlan) (path : List ℕ) (k : ℕ) where
  over_needs : (rs : List Reply) (op : Op) → over_with rs ≡ Some (Needs op) → ⊥
  over_needs [] op e = cc
  over_needs (r ∷ rs) op e = cc

  over_spawns : (rs : List Reply) (op : Op) (child : Start) → over_with rs ≡ Some (Spawns op child) → ⊥
  over_spawns [] op child e = cc
  over_spawns (r ∷ rs) op child e = cc

  same_need : (q op : Op) → ◌≡◌ {A = Option (Next Start)} (Some (Needs q)) (Some (Needs op)) → q ≡ op
  same_need q op e = cc

  same_spawn : (q op : Op) (t child : Start) → ◌≡◌ {A = Option (Next Start)} (Some (Spawns q t)) (Some (Spawns op child)) → (q ≡ op) × (t ≡ child)
  same_spawn q op t child e = (cc, cc)

  needs_plain : (o : Out) (op : Op) → HasMade p path k o → next_of o ≡ Some (Needs op) → is_spawn op ≡ false
  needs_plain (Asks q None s) op m e = subst (λ x. is_spawn x ≡ false) (same_need q op e) m.1.0.0
  needs_plain (Asks q (Some t) s) op m e = absurd (cc)
  needs_plain (Gave v s) op m e = absurd (over_needs s.replies op e)
  needs_plain (Returned v s) op m e = absurd (cc)
  needs_plain (Broke s) op m e = absurd (cc)
  needs_plain (Continued s) op m e = absurd (cc)
  needs_plain (Faulted f s) op m e = absurd (cc)
  needs_plain Unfit op m e = absurd (cc)

  spawns_made : (o : Out) (op : Op) (child : Start) → HasMade p path k o → next_of o ≡ Some (Spawns op child) → MakesChild p path k op child
  spawns_made (Asks q (Some t) s) op child m e =
      let same = same_spawn q op t child e in
      let makes = m.1.0 in
      subst (λ u. MakesChild p path k op u) same.1
      (subst (λ x. MakesChild p path k x t) same.0 (record { names = makes.names ∙ ap (λ i. Spawn (path ++ i ∷ []) t.how) (makes.follows refl); body = makes.body }))
  spawns_made (Asks q None s) op child m e = absurd (cc)
  spawns_made (Gave v s) op child m e = absurd (over_spawns s.replies op child e)
  spawns_made (Returned v s) op child m e = absurd (cc)
  spawns_made (Broke s) op child m e = absurd (cc)
  spawns_made (Continued s) op child m e = absurd (cc)
  spawns_made (Faulted f s) op child m e = absurd (cc)
  spawns_made Unfit op child m e = absurd (cc)

module _ (run : Run) (path : List ℕ) (start : Start) (rs : List Reply) (op : Op) where
  -- a spawn, and no other operation, comes with a child's start
  pub needs_no_spawn : next_operation run path start rs ≡ Some (Needs op) → is_spawn op ≡ false
  needs_no_spawn e = needs_plain run.program path (spawned_by (next_operation run path start) rs) (task run path start rs) op (made_by run path start rs) e

  module _ (child : Start) where
    spawned : next_operation run path start rs ≡ Some (Spawns op child) → MakesChild run.program path (spawned_by (next_operation run path start) rs) op child
    spawned e = spawns_made run.program path (spawned_by (next_operation run path start) rs) (task run path start rs) op child (made_by run path start rs) e

    -- the k-th spawn, from 0, names the task's path followed by k
    pub spawns_next_child : next_operation run path start rs ≡ Some (Spawns op child) → SpawnsChild path (spawned_by (next_operation run path start) rs) op
    spawns_next_child e = (child.how, (spawned e).names)

    -- the child's start says how it is made
    pub spawned_how : next_operation run path start rs ≡ Some (Spawns op child) → (q : List ℕ) × (op ≡ Spawn q child.how)
    spawned_how e = (path ++ spawned_by (next_operation run path start) rs ∷ [], (spawned e).names)

    -- and it has a body
    pub spawned_body : next_operation run path start rs ≡ Some (Spawns op child) → child.code < length run.program.tasks
    spawned_body e = (spawned e).body

-- ---- one reply more

module _ (p : ProgramPlan) (r : Reply) where
  goes_from : (o o' : Out) (op : Op) → OneMore p r o o' → op_of (next_of o) ≡ Some op → can_reply op r ≡ true → ComesAfter (ends op) (next_of o')
  goes_from (Asks q start s) o' op a e c =
      let is = asked_is q op start s e in
      subst (λ x. ComesAfter (ends x) (next_of o')) is (a.further (ap (λ x. can_reply x r) is ∙ c))
  goes_from (Gave v s) o' op a e c = absurd (over_asks s.replies op e)
  goes_from (Returned v s) o' op a e c = absurd (cc)
  goes_from (Broke s) o' op a e c = absurd (cc)
  goes_from (Continued s) o' op a e c = absurd (cc)
  goes_from (Faulted f s) o' op a e c = absurd (cc)
  goes_from Unfit o' op a e c = absurd (cc)

  closes_from : (o o' : Out) (op : Op) → OneMore p r o o' → op_of (next_of o) ≡ Some op → ends op ≡ true → Closed o'
  closes_from (Asks q start s) o' op a e c = a.closes (ap (λ x. ends x) (asked_is q op start s e) ∙ c)
  closes_from (Gave v s) o' op a e c = a
  closes_from (Returned v s) o' op a e c = a
  closes_from (Broke s) o' op a e c = a
  closes_from (Continued s) o' op a e c = a
  closes_from (Faulted f s) o' op a e c = a
  closes_from Unfit o' op a e c = a

over_none : (rs : List Reply) → op_of (over_with rs) ≡ None
over_none [] = refl
over_none (r ∷ rs) = refl

closed_none : (o : Out) → Closed o → op_of (next_of o) ≡ None
closed_none (Gave v s) h = over_none s.replies
closed_none (Returned v s) h = refl
closed_none (Broke s) h = refl
closed_none (Continued s) h = refl
closed_none (Faulted f s) h = refl
closed_none (Asks op start s) h = absurd h
closed_none Unfit h = refl

module _ (run : Run) (path : List ℕ) (start : Start) (rs : List Reply) (op : Op) (r : Reply) where
  -- after each reply that an operation can have, a further operation comes; after the last one nothing
  pub goes_on : op_of (next_operation run path start rs) ≡ Some op → can_reply op r ≡ true → ComesAfter (ends op) (next_operation run path start (rs ++ r ∷ []))
  goes_on e c = goes_from run.program r (task run path start rs) (task run path start (rs ++ r ∷ [])) op (one_more run path start rs r) e c

  -- whatever is replied to the last one, no operation comes behind it
  pub ends_it : (more : List Reply) → op_of (next_operation run path start rs) ≡ Some op → ends op ≡ true → op_of (next_operation run path start (rs ++ r ∷ more)) ≡ None
  ends_it more e c =
      subst (λ l. op_of (next_operation run path start l) ≡ None) (append_assoc rs (r ∷ []) more)
      (closed_none (task run path start ((rs ++ r ∷ []) ++ more)) (closed_from run path start (rs ++ r ∷ []) more
      (closes_from run.program r (task run path start rs) (task run path start (rs ++ r ∷ [])) op (one_more run path start rs r) e c)))

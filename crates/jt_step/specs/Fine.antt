-- What an outcome may be: a tree asks operations on tasks or prints, and only once no reply is left. A
-- spawn alone comes with a start, whose body the program has, and names the task's path and how many
-- tasks it made before.
use Rattle.std.proofs.Common.{◌≡◌, ℕ, zero, suc, ◌+◌, ◌<◌, ◌≤◌, List, [], ◌∷◌, ◌++◌, Option, Some, None, Bool, true, false, length, refl, sym, ap, ◌∙◌, subst, arith}
use Rattle.std.proofs.lemmas.Option.{slice_get_within}
use Rattle.std.specs.Prelude.{ℤ, pos, ◌+ℤ◌, Ok, Err, slice_get, nat_lt, int_le}
use Rattle.jt_base.specs.declared.value.Value.{Value}
use Rattle.jt_base.specs.declared.value.Value.TheVariants.{Int, Flag, Nothing, Task, Object}
use Rattle.jt_base.specs.declared.operation.How.{How}
use Rattle.jt_base.specs.declared.operation.How.TheVariants.{Default}
use Rattle.jt_base.specs.declared.operation.Op.{Op}
use Rattle.jt_base.specs.declared.operation.Op.TheVariants.{Spawn, Fetch, Wait, Yield, Print}
use Rattle.jt_base.specs.declared.operation.Fault.{Fault}
use Rattle.jt_base.specs.declared.operation.Reply.{Reply}
use Rattle.jt_base.specs.Coming.{is_spawn}
use Rattle.jt_base.specs.Names.{most_indexes}
use Rattle.jt_base.specs.Limits.{most_calls}
use Rattle.jt_laws.specs.Entries.{ends}
use Rattle.jt_syntax.specs.declared.operator.Connective.{Connective}
use Rattle.jt_syntax.specs.declared.operator.Connective.TheVariants as connective
use Rattle.jt_program.specs.declared.code.BuiltIn.{BuiltIn}
use Rattle.jt_program.specs.declared.code.BuiltIn.TheVariants as built_in
use Rattle.jt_program.specs.declared.code.Callee.{Callee}
use Rattle.jt_program.specs.declared.code.Callee.TheVariants as callee
use Rattle.jt_program.specs.Plan.{Plan, Plans, Operands, Comparisons, Choices, Pieces, BodyPlan, ProgramPlan}
use Rattle.jt_program.specs.Plan as plan
use Rattle.jt_meaning.specs.declared.start.Start.{Start}
use Rattle.jt_meaning.specs.State as state
use Rattle.jt_meaning.specs.State.{State, Out, Gave, Returned, Broke, Continued, Faulted, Asks, Unfit, TaskPart, turns_of, bind, Given, given, answered, ask, ask_with, turn, turn_with, enter, enter_with, renew, renew_with}
use Rattle.jt_meaning.specs.Values.{Valued, operated, unary_of, applied, compared_by, shown, shown_with, text_of}
use Rattle.jt_meaning.specs.Meaning.{gives, known, test, proceed, holds, looped, left, variables_of, print_text, values_taken, values_known, child_start, await, fork_with, fork, first_fault, noticed, wait_all, unless_failed, awaiting, synced, Later, whole, range, either, bounds, turns_from, call, call_built_in, call_of, run, run_operands, run_comparisons, run_connection, run_choices, run_all, run_arguments, run_pieces, later, go}
use Rattle.jt_meaning.specs.Next.{IsLater}
use Rattle.jt_step.specs.Falls.{TurnsFall, gives_falls, run_falls, go_falls}
use Rattle.jt_step.specs.Agrees.{goes}

-- what is known of how far a part gets: the task's path; the most replies that are left; if none is,
-- the number of tasks that it has made; and whether each reply is one that its operation can have
pub record Reach : Type 0 where
  pub path : List ℕ
  pub replies : ℕ
  pub made : ℕ
  pub fits : Bool

spawn_later : (path : List ℕ) (how : How) → how ≡ Default → IsLater (Spawn path how)
spawn_later path how e = subst (λ h. IsLater (Spawn path h)) (sym e) tt

module _ (program : ProgramPlan) (w : Reach) where
  -- a state that is left behind
  abbrev pub Left : State → Type 0
  Left s = (length s.replies ≤ w.replies) × (s.path ≡ w.path) × (w.replies ≡ 0 → s.spawned ≡ w.made)

  -- a spawn makes the child of the next number
  pub record SpawnsNext (op : Op) (start : Start) (s : State) : Type 0 where
    pub number : ℕ
    pub names : op ≡ Spawn (w.path ++ number ∷ []) start.how
    pub counts : s.spawned ≡ number + 1
    pub follows : w.replies ≡ 0 → number ≡ w.made
    pub body : start.code < length program.tasks

  -- a spawn, and no other operation, comes with a start
  abbrev pub AsksFor : Op → Option Start → State → Type 0
  AsksFor op None s = (is_spawn op ≡ false) × (w.replies ≡ 0 → s.spawned ≡ w.made)
  AsksFor op (Some start) s = SpawnsNext op start s

  -- what a tree asks, and when
  pub record IsAsked (op : Op) (start : Option Start) (s : State) : Type 0 where
    pub kind : AsksFor op start s
    pub later : IsLater op
    pub further : ends op ≡ false
    pub dry : s.replies ≡ []
    pub here : s.path ≡ w.path

  abbrev pub Fine : Out → Type 0
  Fine (Gave v s) = Left s
  Fine (Returned v s) = Left s
  Fine (Broke s) = Left s
  Fine (Continued s) = Left s
  Fine (Faulted f s) = Left s
  Fine (Asks op start s) = IsAsked op start s
  Fine Unfit = w.fits ≡ true → 0 < w.replies

  -- ---- what parts are put together by

  pub bind_fine : (o : Out) (k : Value → TaskPart) (t : ℕ) → turns_of o ≤ t → Fine o → ((v : Value) (s : State) → s.turns ≤ t → Left s → Fine (k v s)) → Fine (bind o k)
  bind_fine (Gave v s) k t g h f = f v s g h
  bind_fine (Returned v s) k t g h f = h
  bind_fine (Broke s) k t g h f = h
  bind_fine (Continued s) k t g h f = h
  bind_fine (Faulted q s) k t g h f = h
  bind_fine (Asks op start s) k t g h f = h
  bind_fine Unfit k t g h f = h

  pub looped_fine : (o : Out) (k : TaskPart) (t : ℕ) → turns_of o ≤ t → Fine o → ((s : State) → s.turns ≤ t → Left s → Fine (k s)) → Fine (looped k o)
  looped_fine (Gave v s) k t g h f = f s g h
  looped_fine (Continued s) k t g h f = f s g h
  looped_fine (Returned v s) k t g h f = h
  looped_fine (Broke s) k t g h f = h
  looped_fine (Faulted q s) k t g h f = h
  looped_fine (Asks op start s) k t g h f = h
  looped_fine Unfit k t g h f = h

  pub left_fine : (o : Out) (variables : List (Option Value)) (m : ℕ) → Fine o → Fine (left variables m o)
  left_fine (Gave v s) variables m h = h
  left_fine (Returned v s) variables m h = h
  left_fine (Broke s) variables m h = h
  left_fine (Continued s) variables m h = h
  left_fine (Faulted q s) variables m h = h
  left_fine (Asks op start s) variables m h = h
  left_fine Unfit variables m h = h

  known_fine : (o : Option (Option Value)) (s : State) → Left s → Fine (known o s)
  known_fine (Some (Some v)) s h = h
  known_fine (Some None) s h = h
  known_fine None s h = h

  pub gives_fine : (r : Valued) (s : State) → Left s → Fine (gives r s)
  gives_fine (Ok v) s h = h
  gives_fine (Err f) s h = h

  pub answered_fine : (g : Given) (s : State) → Left s → (g ≡ state.unfit → w.fits ≡ true → 0 < w.replies) → Fine (answered g s)
  answered_fine (state.value v) s h u = h
  answered_fine (state.fault f) s h u = h
  answered_fine state.unfit s h u = u refl

  ask_fine : (op : Op) (start : Option Start) (s : State) (rs : List Reply) → rs ≡ s.replies → length rs ≤ w.replies → s.path ≡ w.path → AsksFor op start s → IsLater op → ends op ≡ false → Fine (ask_with op start s rs)
  ask_fine op start s [] e few here a l g =
      record { kind = a; later = l; further = g; dry = sym e; here = here }
  ask_fine op start s (r ∷ rs) e few here a l g =
      answered_fine (given op r) (record s { replies = rs }) (omega arith, here, λ none. absurd (omega arith)) (λ u f. omega arith)

  -- an operation that is no spawn
  need_fine : (op : Op) (s : State) → is_spawn op ≡ false → IsLater op → ends op ≡ false → Left s → Fine (ask op None s)
  need_fine op s plain l g h = ask_fine op None s s.replies refl h.0 h.1 (plain, h.2) l g

  print_fine : (text : Option (List ℕ)) (s : State) → Left s → Fine (print_text text s)
  print_fine (Some text) s h = need_fine (Print text) s refl tt refl h
  print_fine None s h = h

  pub test_fine : (v : Value) (a b : TaskPart) (s : State) → Left s → Fine (a s) → Fine (b s) → Fine (test v a b s)
  test_fine (Flag true) a b s h f g = f
  test_fine (Flag false) a b s h f g = g
  test_fine (Int i) a b s h f g = h
  test_fine Nothing a b s h f g = h
  test_fine (Task path) a b s h f g = h
  test_fine (Object kind name) a b s h f g = h

  proceed_fine : (c : Connective) (v : Value) (k : TaskPart) (s : State) → Left s → Fine (k s) → Fine (proceed c v k s)
  proceed_fine connective.And v k s h f = test_fine v k _ s h f h
  proceed_fine connective.Or v k s h f = test_fine v _ k s h h f

  pub holds_fine : (o : Option Bool) (k : TaskPart) (s : State) → Left s → Fine (k s) → Fine (holds o k s)
  holds_fine (Some true) k s h f = f
  holds_fine (Some false) k s h f = h
  holds_fine None k s h f = h

  either_fine : (x : Bool) (a b : TaskPart) (s : State) → Fine (a s) → Fine (b s) → Fine (either x a b s)
  either_fine true a b s f g = f
  either_fine false a b s f g = g

  pub bounds_fine : (k : ℤ → ℤ → TaskPart) (v w : Value) (s : State) → Left s → ((a b : ℤ) → Fine (k a b s)) → Fine (bounds k v w s)
  bounds_fine k (Int a) (Int b) s h f = f a b
  bounds_fine k v w s h f = h

  turn_fine : (t m : ℕ) (k : TaskPart) (s : State) → t < suc m → Left s → ((s : State) → s.turns < m → Left s → Fine (k s)) → Fine (turn_with t k s)
  turn_fine zero m k s g h f = h
  turn_fine (suc t) m k s g h f = f (record s { turns = t }) (omega arith) h

  enter_fine : (t m : ℕ) (free : Bool) (k : TaskPart) (s : State) → t < suc m → Left s → ((s : State) → s.turns < m → Left s → Fine (k s)) → Fine (enter_with t free k s)
  enter_fine zero m free k s g h f = h
  enter_fine (suc t) m false k s g h f = h
  enter_fine (suc t) m true k s g h f = f (record s { turns = t; open_calls = s.open_calls + 1 }) (omega arith) h

  -- ---- tasks

  -- a start with a body of the program, for the default pool
  abbrev IsChild : Option Start → Type 0
  IsChild None = Unit {0}
  IsChild (Some start) = (start.code < length program.tasks) × (start.how ≡ Default)

  child_fine : (body : ℕ) (stream : List ℕ) (captured constants : Option (List Value)) → body < length program.tasks → IsChild (child_start body stream captured constants)
  child_fine body stream (Some vs) (Some ws) h = (h, refl)
  child_fine body stream (Some vs) None h = tt
  child_fine body stream None ws h = tt

  fork_with_fine : (path : List ℕ) (awaits : Bool) (start : Option Start) (s : State) → path ≡ s.path ++ s.spawned ∷ [] → IsChild start → Left s → Fine (fork_with path awaits start s)
  fork_with_fine path awaits None s e b h = h
  fork_with_fine path awaits (Some start) s e b h =
      ask_fine (Spawn path start.how) (Some start) (record s { spawned = s.spawned + 1; awaited = await awaits path s.awaited }) s.replies refl h.0 h.1
      (record { number = s.spawned; names = ap (λ p. Spawn p start.how) (e ∙ ap (λ p. p ++ s.spawned ∷ []) h.1); counts = refl; follows = h.2; body = b.0 }) (spawn_later path start.how b.1) refl

  pub fork_fine : (o : Option BodyPlan) (body : ℕ) (slots : List ℕ) (awaits : Bool) (s : State) → slice_get program.tasks body ≡ o → Left s → Fine (fork o body slots awaits s)
  fork_fine None body slots awaits s e h = h
  fork_fine (Some b) body slots awaits s e h =
      either_fine (nat_lt (length s.path) most_indexes) _ _ s
      (fork_with_fine (s.path ++ s.spawned ∷ []) awaits (child_start body s.stream (values_taken [] s.variables slots) (values_known [] s.constants)) s refl
      (child_fine body s.stream (values_taken [] s.variables slots) (values_known [] s.constants) (slice_get_within program.tasks body b e)) h) h

  pub noticed_fine : (first : Option Fault) (k : Option Fault → TaskPart) (o : Out) → Fine o → ((f : Option Fault) (s : State) → Left s → Fine (k f s)) → Fine (noticed first k o)
  noticed_fine first k (Gave v s) h f = f first s h
  noticed_fine first k (Faulted q s) h f = f (first_fault first q) s h
  noticed_fine first k (Returned v s) h f = h
  noticed_fine first k (Broke s) h f = h
  noticed_fine first k (Continued s) h f = h
  noticed_fine first k (Asks op start s) h f = h
  noticed_fine first k Unfit h f = h

  pub waits_fine : (paths : List (List ℕ)) (first : Option Fault) (k : Option Fault → TaskPart) (s : State) → Left s → ((f : Option Fault) (s : State) → Left s → Fine (k f s)) → Fine (wait_all paths first k s)
  waits_fine [] first k s h f = f first s h
  waits_fine (path ∷ paths) first k s h f =
      noticed_fine first (λ q. wait_all paths q k) (ask (Wait path) None s) (need_fine (Wait path) s refl tt refl h) (λ q s h. waits_fine paths q k s h f)

  pub unless_fine : (k : TaskPart) (o : Option Fault) (s : State) → Left s → Fine (k s) → Fine (unless_failed k o s)
  unless_fine k None s h f = f
  unless_fine k (Some q) s h f = h

  pub synced_fine : (outer : List (List ℕ)) (o : Out) → Fine o → Fine (synced outer o)
  synced_fine outer (Gave v s) h = waits_fine s.awaited None (unless_failed (Gave v)) (awaiting outer s) h (λ q s h. unless_fine (Gave v) q s h h)
  synced_fine outer (Returned v s) h =
      waits_fine s.awaited None (unless_failed (Returned v)) (awaiting outer s) h (λ q s h. unless_fine (Returned v) q s h h)
  synced_fine outer (Broke s) h = h
  synced_fine outer (Continued s) h = h
  synced_fine outer (Faulted f s) h = h
  synced_fine outer (Asks op start s) h = h
  synced_fine outer Unfit h = h

  built_in_fine : (f : BuiltIn) (vs : List Value) (s : State) → Left s → Fine (call_built_in f vs s)
  built_in_fine built_in.Fetch (Task path ∷ []) s h = need_fine (Fetch path) s refl tt refl h
  built_in_fine built_in.Wait (Task path ∷ []) s h = need_fine (Wait path) s refl tt refl h
  built_in_fine built_in.Yield [] s h = need_fine Yield s refl tt refl h
  built_in_fine f vs s h = gives_fine (applied f vs) s h

  -- ---- trees

  -- where fewer than m turns are left
  pub record Fines (m : ℕ) (lower : Later → TaskPart) : Type 0 where
    pub by : (l : Later) (s : State) → s.turns < m → Left s → Fine (lower l s)

  call_fine : (m : ℕ) (lower : Later → TaskPart) (o : Option BodyPlan) (vs : List Value) (s : State) → Fines m lower → s.turns < suc m → Left s → Fine (call lower o vs s)
  call_fine m lower None vs s a g h = h
  call_fine m lower (Some b) vs s a g h =
      enter_fine s.turns m (nat_lt s.open_calls most_calls) _ s g h (λ s2 g2 h2. left_fine (lower (whole b.code) (record s2 { variables = variables_of b vs })) _ _ (a.by (whole b.code) (record s2 { variables = variables_of b vs }) g2 h2))

  from_fine : (m : ℕ) (lower : Later → TaskPart) (first count : ℕ) (b : Plan) (body : TaskPart) → Fines m lower → ((s : State) → turns_of (body s) ≤ s.turns) → ((s : State) → s.turns < suc m → Left s → Fine (body s)) → (i last : ℤ) (s : State) → s.turns < suc m → Left s → Fine (turns_from lower first count b body i last s)
  from_fine m lower first count b body a f c i last s g h =
      either_fine (int_le i last) _ _ s
      (turn_fine s.turns m _ s g h (λ s g2 h2. looped_fine (body (renew_with first count (Int i) s)) _ s.turns (f (renew_with first count (Int i) s)) (c (renew_with first count (Int i) s) (omega arith) h2)
      (λ s g3. a.by (range first count b (i +ℤ pos 1) last) s (omega arith)))) h

  module _ (m : ℕ) (lower : Later → TaskPart) (f : TurnsFall lower) (a : Fines m lower) where
    falls : (e : Plan) (s : State) → turns_of (run program lower e s) ≤ s.turns
    falls = run_falls program lower f

    call_of_fine : (c : Callee) (vs : List Value) (s : State) → s.turns < suc m → Left s → Fine (call_of program lower c vs s)
    call_of_fine (callee.Function i) vs s g h = call_fine m lower (slice_get program.functions i) vs s a g h
    call_of_fine (callee.BuiltIn b) vs s g h = built_in_fine b vs s h

    mutual
      run_fine : (e : Plan) (s : State) → s.turns < suc m → Left s → Fine (run program lower e s)
      run_fine (plan.literal l) s g h = h
      run_fine (plan.variable x) s g h = known_fine (slice_get s.variables x) s h
      run_fine (plan.constant k) s g h = known_fine (slice_get s.constants k) s h
      run_fine (plan.assign x e) s g h = bind_fine (run program lower e s) _ s.turns (falls e s) (run_fine e s g h) (λ v s g2 h2. h2)
      run_fine (plan.define k e) s g h = bind_fine (run program lower e s) _ s.turns (falls e s) (run_fine e s g h) (λ v s g2 h2. h2)
      run_fine (plan.unary o e) s g h = bind_fine (run program lower e s) _ s.turns (falls e s) (run_fine e s g h) (λ v s g2. gives_fine (unary_of o v) s)
      run_fine (plan.operation e es) s g h = bind_fine (run program lower e s) _ s.turns (falls e s) (run_fine e s g h) (λ v s g2. operands_fine v es s (omega arith))
      run_fine (plan.comparison e es) s g h = bind_fine (run program lower e s) _ s.turns (falls e s) (run_fine e s g h) (λ v s g2. comparisons_fine v es s (omega arith))
      run_fine (plan.connection c e es) s g h = bind_fine (run program lower e s) _ s.turns (falls e s) (run_fine e s g h) (λ v s g2. connection_fine c v es s (omega arith))
      run_fine (plan.branch cs e) s g h = choices_fine cs _ (run_fine e) s g h
      run_fine (plan.block es) s g h = all_fine Nothing es s g h
      run_fine (plan.while first count c b) s g h =
          bind_fine (run program lower c s) _ s.turns (falls c s) (run_fine c s g h) (λ v s g2 h2. test_fine v _ _ s h2
          (turn_fine s.turns m _ s (omega arith) h2 (λ s g3 h3. looped_fine (run program lower b (renew first count s)) _ s.turns (falls b (renew first count s)) (run_fine b (renew first count s) (omega arith) h3)
          (λ s g4. a.by (whole (plan.while first count c b)) s (omega arith)))) h2)
      run_fine (plan.for first count b c e) s g h =
          bind_fine (run program lower b s) _ s.turns (falls b s) (run_fine b s g h) (λ v s g2 h2. bind_fine (run program lower c s) _ s.turns (falls c s) (run_fine c s (omega arith) h2)
          (λ w s g3 h3. bounds_fine _ v w s h3 (λ i j. from_fine m lower first count e (run program lower e) a (falls e) (run_fine e) i j s (omega arith) h3)))
      run_fine (plan.call c es) s g h = arguments_fine c [] es s g h
      run_fine (plan.print ps) s g h = pieces_fine (Some []) ps s g h
      run_fine (plan.error t) s g h = h
      run_fine (plan.spawn b xs awaits) s g h = fork_fine (slice_get program.tasks b) b xs awaits s refl h
      run_fine (plan.sync e) s g h = synced_fine s.awaited (run program lower e (awaiting [] s)) (run_fine e (awaiting [] s) g h)
      run_fine (plan.return e) s g h = bind_fine (run program lower e s) _ s.turns (falls e s) (run_fine e s g h) (λ v s g2 h2. h2)
      run_fine plan.break s g h = h
      run_fine plan.continue s g h = h

      operands_fine : (v : Value) (es : Operands) (s : State) → s.turns < suc m → Left s → Fine (run_operands program lower v es s)
      operands_fine v plan.no_operands s g h = h
      operands_fine v (plan.operand o e es) s g h =
          bind_fine (run program lower e s) _ s.turns (falls e s) (run_fine e s g h) (λ w s g2 h2. bind_fine (gives (operated o v w) s) _ s.turns (gives_falls (operated o v w) s) (gives_fine (operated o v w) s h2) (λ x s g3. operands_fine x es s (omega arith)))

      comparisons_fine : (v : Value) (es : Comparisons) (s : State) → s.turns < suc m → Left s → Fine (run_comparisons program lower v es s)
      comparisons_fine v plan.no_comparisons s g h = h
      comparisons_fine v (plan.compared o e es) s g h =
          bind_fine (run program lower e s) _ s.turns (falls e s) (run_fine e s g h) (λ w s g2 h2. holds_fine (compared_by o v w) _ s h2 (comparisons_fine w es s (omega arith) h2))

      connection_fine : (c : Connective) (v : Value) (es : Plans) (s : State) → s.turns < suc m → Left s → Fine (run_connection program lower c v es s)
      connection_fine c v plan.no_plans s g h = h
      connection_fine c v (plan.plan e es) s g h =
          proceed_fine c v _ s h (bind_fine (run program lower e s) _ s.turns (falls e s) (run_fine e s g h) (λ w s g2. connection_fine c w es s (omega arith)))

      choices_fine : (cs : Choices) (k : TaskPart) → ((s : State) → s.turns < suc m → Left s → Fine (k s)) → (s : State) → s.turns < suc m → Left s → Fine (run_choices program lower cs k s)
      choices_fine plan.no_choices k q s g h = q s g h
      choices_fine (plan.choice c e cs) k q s g h =
          bind_fine (run program lower c s) _ s.turns (falls c s) (run_fine c s g h) (λ v s g2 h2. test_fine v _ _ s h2 (run_fine e s (omega arith) h2) (choices_fine cs k q s (omega arith) h2))

      all_fine : (v : Value) (es : Plans) (s : State) → s.turns < suc m → Left s → Fine (run_all program lower v es s)
      all_fine v plan.no_plans s g h = h
      all_fine v (plan.plan e es) s g h = bind_fine (run program lower e s) _ s.turns (falls e s) (run_fine e s g h) (λ w s g2. all_fine w es s (omega arith))

      arguments_fine : (c : Callee) (vs : List Value) (es : Plans) (s : State) → s.turns < suc m → Left s → Fine (run_arguments program lower c vs es s)
      arguments_fine c vs plan.no_plans s g h = call_of_fine c vs s g h
      arguments_fine c vs (plan.plan e es) s g h = bind_fine (run program lower e s) _ s.turns (falls e s) (run_fine e s g h) (λ v s g2. arguments_fine c (vs ++ v ∷ []) es s (omega arith))

      pieces_fine : (text : Option (List ℕ)) (ps : Pieces) (s : State) → s.turns < suc m → Left s → Fine (run_pieces program lower text ps s)
      pieces_fine text plan.no_pieces s g h = print_fine text s h
      pieces_fine text (plan.value_piece e ps) s g h = bind_fine (run program lower e s) _ s.turns (falls e s) (run_fine e s g h) (λ v s g2. pieces_fine (shown_with text (shown v)) ps s (omega arith))
      pieces_fine text (plan.text_piece t ps) s g h = pieces_fine (shown_with text (text_of t)) ps s g h

    later_fine : (l : Later) (s : State) → s.turns < suc m → Left s → Fine (later program lower l s)
    later_fine (whole e) s g h = run_fine e s g h
    later_fine (range first count e i last) s g h = from_fine m lower first count e (run program lower e) a (falls e) (run_fine e) i last s g h

  goes_fine : (m : ℕ) → Fines m (go program)
  goes_fine zero = record { by = λ l s g h. absurd (omega arith) }
  goes_fine (suc m) = record { by = λ l s g h. subst Fine (sym (goes program l s)) (later_fine m (go program) (go_falls program) (goes_fine m) l s g h) }

  -- whatever turns are left
  pub go_fine : (l : Later) (s : State) → Left s → Fine (go program l s)
  go_fine l s h = (goes_fine (suc s.turns)).by l s (omega arith) h

  -- ---- parts of trees, by what their parts do

  pub does_fine : (e : Plan) (s : State) → Left s → Fine (run program (go program) e s)
  does_fine e s h = run_fine s.turns (go program) (go_falls program) (goes_fine s.turns) e s (omega arith) h

  pub does_operands_fine : (v : Value) (es : Operands) (s : State) → Left s → Fine (run_operands program (go program) v es s)
  does_operands_fine v es s h = operands_fine s.turns (go program) (go_falls program) (goes_fine s.turns) v es s (omega arith) h

  pub does_comparisons_fine : (v : Value) (es : Comparisons) (s : State) → Left s → Fine (run_comparisons program (go program) v es s)
  does_comparisons_fine v es s h = comparisons_fine s.turns (go program) (go_falls program) (goes_fine s.turns) v es s (omega arith) h

  pub does_connection_fine : (c : Connective) (v : Value) (es : Plans) (s : State) → Left s → Fine (run_connection program (go program) c v es s)
  does_connection_fine c v es s h = connection_fine s.turns (go program) (go_falls program) (goes_fine s.turns) c v es s (omega arith) h

  pub does_choices_fine : (cs : Choices) (k : TaskPart) → ((s : State) → Left s → Fine (k s)) → (s : State) → Left s → Fine (run_choices program (go program) cs k s)
  does_choices_fine cs k q s h = choices_fine s.turns (go program) (go_falls program) (goes_fine s.turns) cs k (λ s g. q s) s (omega arith) h

  pub does_all_fine : (v : Value) (es : Plans) (s : State) → Left s → Fine (run_all program (go program) v es s)
  does_all_fine v es s h = all_fine s.turns (go program) (go_falls program) (goes_fine s.turns) v es s (omega arith) h

  pub does_arguments_fine : (c : Callee) (vs : List Value) (es : Plans) (s : State) → Left s → Fine (run_arguments program (go program) c vs es s)
  does_arguments_fine c vs es s h = arguments_fine s.turns (go program) (go_falls program) (goes_fine s.turns) c vs es s (omega arith) h

  pub does_pieces_fine : (text : Option (List ℕ)) (ps : Pieces) (s : State) → Left s → Fine (run_pieces program (go program) text ps s)
  does_pieces_fine text ps s h = pieces_fine s.turns (go program) (go_falls program) (goes_fine s.turns) text ps s (omega arith) h

  -- the turns of a loop over numbers
  pub does_from_fine : (first count : ℕ) (e : Plan) (i last : ℤ) (s : State) → Left s → Fine (turns_from (go program) first count e (run program (go program) e) i last s)
  does_from_fine first count e i last s h =
      from_fine s.turns (go program) first count e _ (goes_fine s.turns) (run_falls program (go program) (go_falls program) e) (λ s g. does_fine e s) i last s (omega arith) h

  -- a turn of a loop with a condition
  pub does_turn_fine : (first count : ℕ) (c b : Plan) (s : State) → Left s → Fine (turn (λ s. looped (go program (whole (plan.while first count c b))) (run program (go program) b (renew first count s))) s)
  does_turn_fine first count c b s h =
      turn_fine s.turns s.turns _ s (omega arith) h (λ s g h2. looped_fine (run program (go program) b (renew first count s)) _ s.turns (run_falls program (go program) (go_falls program) b (renew first count s)) (does_fine b (renew first count s) h2)
      (λ s g2. go_fine (whole (plan.while first count c b)) s))

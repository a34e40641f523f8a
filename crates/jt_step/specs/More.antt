-- One reply more behind the others: what asks nothing ends as it did, with this reply left over; what
-- asks for it goes on, and with no reply left it makes the next task at most.
use Rattle.std.proofs.Common.{◌≡◌, ℕ, zero, suc, ◌+◌, ◌<◌, ◌≤◌, List, [], ◌∷◌, ◌++◌, Option, Some, None, Bool, true, false, length, refl, sym, ap, subst, arith}
use Rattle.std.specs.Prelude.{ℤ, pos, ◌+ℤ◌, Ok, Err, slice_get, nat_lt, int_le}
use Rattle.jt_base.specs.declared.value.Value.{Value}
use Rattle.jt_base.specs.declared.value.Value.TheVariants.{Int, Flag, Nothing, Task, Object}
use Rattle.jt_base.specs.declared.operation.Fault.{Fault}
use Rattle.jt_base.specs.declared.operation.How.{How}
use Rattle.jt_base.specs.declared.operation.Op.{Op}
use Rattle.jt_base.specs.declared.operation.Op.TheVariants.{Spawn, Fetch, Wait, Yield, Print}
use Rattle.jt_base.specs.declared.operation.Reply.{Reply}
use Rattle.jt_base.specs.declared.operation.Reply.TheVariants as reply
use Rattle.jt_base.specs.Names.{most_indexes}
use Rattle.jt_base.specs.Limits.{most_calls}
use Rattle.jt_laws.specs.Replies.{can_reply}
use Rattle.jt_syntax.specs.declared.operator.Connective.{Connective}
use Rattle.jt_syntax.specs.declared.operator.Connective.TheVariants as connective
use Rattle.jt_program.specs.declared.code.BuiltIn.{BuiltIn}
use Rattle.jt_program.specs.declared.code.BuiltIn.TheVariants as built_in
use Rattle.jt_program.specs.declared.code.Callee.{Callee}
use Rattle.jt_program.specs.declared.code.Callee.TheVariants as callee
use Rattle.jt_program.specs.Plan.{Plan, Plans, Operands, Comparisons, Choices, Pieces, BodyPlan, ProgramPlan}
use Rattle.jt_program.specs.Plan as plan
use Rattle.jt_meaning.specs.declared.start.Start.{Start}
use Rattle.jt_meaning.specs.State as state
use Rattle.jt_meaning.specs.State.{State, Out, Gave, Returned, Broke, Continued, Faulted, Asks, Unfit, TaskPart, turns_of, bind, Given, given, answered, ask, ask_with, turn, turn_with, enter, enter_with, renew, renew_with}
use Rattle.jt_meaning.specs.Values.{Valued, operated, unary_of, applied, compared_by, shown, shown_with, text_of}
use Rattle.jt_meaning.specs.Meaning.{gives, known, test, proceed, holds, looped, left, variables_of, print_text, values_taken, values_known, child_start, await, fork_with, fork, first_fault, noticed, wait_all, unless_failed, awaiting, synced, Later, whole, range, either, bounds, turns_from, call, call_built_in, call_of, run, run_operands, run_comparisons, run_connection, run_choices, run_all, run_arguments, run_pieces, later, go}
use Rattle.jt_step.specs.Falls.{gives_falls, run_falls, go_falls}
use Rattle.jt_step.specs.Agrees.{goes}
use Rattle.jt_step.specs.Fine.{Reach, Left, Fine, bind_fine, looped_fine, left_fine, answered_fine, noticed_fine, waits_fine, unless_fine, synced_fine, gives_fine, test_fine, holds_fine, bounds_fine, go_fine, does_fine, does_operands_fine, does_comparisons_fine, does_connection_fine, does_choices_fine, does_all_fine, does_arguments_fine, does_pieces_fine, does_from_fine, does_turn_fine}

-- a reply that the operation can have is one that it takes
abbrev Fits : Op → Reply → Type 0
Fits op r = given op r ≡ state.unfit → can_reply op r ≡ true → ⊥

print_fits : (text : List ℕ) (r : Reply) → Fits (Print text) r
print_fits text reply.Ok u c = cc
print_fits text r u c = cc

spawn_fits : (path : List ℕ) (how : How) (r : Reply) → Fits (Spawn path how) r
spawn_fits path how reply.Ok u c = cc
spawn_fits path how r u c = cc

fetch_fits : (path : List ℕ) (r : Reply) → Fits (Fetch path) r
fetch_fits path (reply.Val v) u c = cc
fetch_fits path reply.Failed u c = cc
fetch_fits path r u c = cc

wait_fits : (path : List ℕ) (r : Reply) → Fits (Wait path) r
wait_fits path reply.Ok u c = cc
wait_fits path reply.Failed u c = cc
wait_fits path r u c = cc

yield_fits : (r : Reply) → Fits Yield r
yield_fits reply.Ok u c = cc
yield_fits r u c = cc

module _ (r : Reply) where
  abbrev pub plus : State → State
  plus s = record s { replies = s.replies ++ r ∷ [] }

  -- what is known behind the reply to an operation
  abbrev pub after : Op → State → Reach
  after op s = record { path = s.path; replies = 0; made = s.spawned; fits = can_reply op r }

  module _ (program : ProgramPlan) where
    -- the outcome with the reply, by that without it
    abbrev pub More : Out → Out → Type 0
    More (Gave v s) o = o ≡ Gave v (plus s)
    More (Returned v s) o = o ≡ Returned v (plus s)
    More (Broke s) o = o ≡ Broke (plus s)
    More (Continued s) o = o ≡ Continued (plus s)
    More (Faulted f s) o = o ≡ Faulted f (plus s)
    More (Asks op start s) o = Fine program (after op s) o
    More Unfit o = o ≡ Unfit

    -- ---- what parts are put together by

    bind_more : (o o' : Out) (k : Value → TaskPart) (t : ℕ) → turns_of o ≤ t → More o o' → ((v : Value) (s : State) → s.turns ≤ t → More (k v s) (k v (plus s))) → ((v : Value) (w : Reach) (s : State) → Left program w s → Fine program w (k v s)) → More (bind o k) (bind o' k)
    bind_more (Gave v s) o' k t g h f q = subst (λ x. More (k v s) (bind x k)) (sym h) (f v s g)
    bind_more (Returned v s) o' k t g h f q = ap (λ x. bind x k) h
    bind_more (Broke s) o' k t g h f q = ap (λ x. bind x k) h
    bind_more (Continued s) o' k t g h f q = ap (λ x. bind x k) h
    bind_more (Faulted x s) o' k t g h f q = ap (λ x. bind x k) h
    bind_more (Asks op start s) o' k t g h f q = bind_fine program (after op s) o' k (turns_of o') (omega arith) h (λ v u g2. q v (after op s) u)
    bind_more Unfit o' k t g h f q = ap (λ x. bind x k) h

    looped_more : (o o' : Out) (k : TaskPart) (t : ℕ) → turns_of o ≤ t → More o o' → ((s : State) → s.turns ≤ t → More (k s) (k (plus s))) → ((w : Reach) (s : State) → Left program w s → Fine program w (k s)) → More (looped k o) (looped k o')
    looped_more (Gave v s) o' k t g h f q = subst (λ x. More (k s) (looped k x)) (sym h) (f s g)
    looped_more (Continued s) o' k t g h f q = subst (λ x. More (k s) (looped k x)) (sym h) (f s g)
    looped_more (Returned v s) o' k t g h f q = ap (looped k) h
    looped_more (Broke s) o' k t g h f q = ap (looped k) h
    looped_more (Faulted x s) o' k t g h f q = ap (looped k) h
    looped_more (Asks op start s) o' k t g h f q = looped_fine program (after op s) o' k (turns_of o') (omega arith) h (λ u g2. q (after op s) u)
    looped_more Unfit o' k t g h f q = ap (looped k) h

    left_more : (o o' : Out) (variables : List (Option Value)) (m : ℕ) → More o o' → More (left variables m o) (left variables m o')
    left_more (Gave v s) o' variables m h = ap (left variables m) h
    left_more (Returned v s) o' variables m h = ap (left variables m) h
    left_more (Broke s) o' variables m h = ap (left variables m) h
    left_more (Continued s) o' variables m h = ap (left variables m) h
    left_more (Faulted x s) o' variables m h = ap (left variables m) h
    left_more (Asks op start s) o' variables m h = left_fine program (after op s) o' variables m h
    left_more Unfit o' variables m h = ap (left variables m) h

    known_more : (o : Option (Option Value)) (s : State) → More (known o s) (known o (plus s))
    known_more (Some (Some v)) s = refl
    known_more (Some None) s = refl
    known_more None s = refl

    gives_more : (x : Valued) (s : State) → More (gives x s) (gives x (plus s))
    gives_more (Ok v) s = refl
    gives_more (Err f) s = refl

    pub answered_more : (g : Given) (s : State) → More (answered g s) (answered g (plus s))
    answered_more (state.value v) s = refl
    answered_more (state.fault f) s = refl
    answered_more state.unfit s = refl

    ask_more : (op : Op) (start : Option Start) (s : State) (rs : List Reply) → Fits op r → More (ask_with op start s rs) (ask_with op start (plus s) (rs ++ r ∷ []))
    ask_more op start s [] f =
        answered_fine program (after op s) (given op r) (record s { replies = [] }) (omega arith, refl, λ none. refl) (λ u c. absurd (f u c))
    ask_more op start s (x ∷ rs) f = answered_more (given op x) (record s { replies = rs })

    print_more : (text : Option (List ℕ)) (s : State) → More (print_text text s) (print_text text (plus s))
    print_more (Some text) s = ask_more (Print text) None s s.replies (print_fits text r)
    print_more None s = refl

    test_more : (v : Value) (a b : TaskPart) (s : State) → More (a s) (a (plus s)) → More (b s) (b (plus s)) → More (test v a b s) (test v a b (plus s))
    test_more (Flag true) a b s f g = f
    test_more (Flag false) a b s f g = g
    test_more (Int n) a b s f g = refl
    test_more Nothing a b s f g = refl
    test_more (Task path) a b s f g = refl
    test_more (Object kind name) a b s f g = refl

    proceed_more : (c : Connective) (v : Value) (k : TaskPart) (s : State) → More (k s) (k (plus s)) → More (proceed c v k s) (proceed c v k (plus s))
    proceed_more connective.And v k s f = test_more v k _ s f refl
    proceed_more connective.Or v k s f = test_more v _ k s refl f

    holds_more : (o : Option Bool) (k : TaskPart) (s : State) → More (k s) (k (plus s)) → More (holds o k s) (holds o k (plus s))
    holds_more (Some true) k s f = f
    holds_more (Some false) k s f = refl
    holds_more None k s f = refl

    either_more : (x : Bool) (a b : TaskPart) (s : State) → More (a s) (a (plus s)) → More (b s) (b (plus s)) → More (either x a b s) (either x a b (plus s))
    either_more true a b s f g = f
    either_more false a b s f g = g

    bounds_more : (k : ℤ → ℤ → TaskPart) (v w : Value) (s : State) → ((a b : ℤ) → More (k a b s) (k a b (plus s))) → More (bounds k v w s) (bounds k v w (plus s))
    bounds_more k (Int a) (Int b) s f = f a b
    bounds_more k v w s f = refl

    turn_more : (t m : ℕ) (k : TaskPart) (s : State) → t < suc m → ((s : State) → s.turns < m → More (k s) (k (plus s))) → More (turn_with t k s) (turn_with t k (plus s))
    turn_more zero m k s g f = refl
    turn_more (suc t) m k s g f = f (record s { turns = t }) (omega arith)

    enter_more : (t m : ℕ) (free : Bool) (k : TaskPart) (s : State) → t < suc m → ((s : State) → s.turns < m → More (k s) (k (plus s))) → More (enter_with t free k s) (enter_with t free k (plus s))
    enter_more zero m free k s g f = refl
    enter_more (suc t) m false k s g f = refl
    enter_more (suc t) m true k s g f = f (record s { turns = t; open_calls = s.open_calls + 1 }) (omega arith)

    -- ---- tasks

    fork_with_more : (path : List ℕ) (awaits : Bool) (start : Option Start) (s : State) → More (fork_with path awaits start s) (fork_with path awaits start (plus s))
    fork_with_more path awaits None s = refl
    fork_with_more path awaits (Some start) s =
        ask_more (Spawn path start.how) (Some start) (record s { spawned = s.spawned + 1; awaited = await awaits path s.awaited }) s.replies (spawn_fits path start.how r)

    fork_more : (o : Option BodyPlan) (body : ℕ) (slots : List ℕ) (awaits : Bool) (s : State) → More (fork o body slots awaits s) (fork o body slots awaits (plus s))
    fork_more None body slots awaits s = refl
    fork_more (Some b) body slots awaits s =
        either_more (nat_lt (length s.path) most_indexes) _ _ s
        (fork_with_more (s.path ++ s.spawned ∷ []) awaits (child_start body s.stream (values_taken [] s.variables slots) (values_known [] s.constants)) s) refl

    noticed_more : (first : Option Fault) (k : Option Fault → TaskPart) (o o' : Out) → More o o' → ((f : Option Fault) (s : State) → More (k f s) (k f (plus s))) → ((f : Option Fault) (w : Reach) (s : State) → Left program w s → Fine program w (k f s)) → More (noticed first k o) (noticed first k o')
    noticed_more first k (Gave v s) o' h f q = subst (λ x. More (k first s) (noticed first k x)) (sym h) (f first s)
    noticed_more first k (Faulted g s) o' h f q = subst (λ x. More (k (first_fault first g) s) (noticed first k x)) (sym h) (f (first_fault first g) s)
    noticed_more first k (Returned v s) o' h f q = ap (noticed first k) h
    noticed_more first k (Broke s) o' h f q = ap (noticed first k) h
    noticed_more first k (Continued s) o' h f q = ap (noticed first k) h
    noticed_more first k (Asks op start s) o' h f q = noticed_fine program (after op s) first k o' h (λ g. q g (after op s))
    noticed_more first k Unfit o' h f q = ap (noticed first k) h

    waits_more : (paths : List (List ℕ)) (first : Option Fault) (k : Option Fault → TaskPart) (s : State) → ((f : Option Fault) (s : State) → More (k f s) (k f (plus s))) → ((f : Option Fault) (w : Reach) (s : State) → Left program w s → Fine program w (k f s)) → More (wait_all paths first k s) (wait_all paths first k (plus s))
    waits_more [] first k s f q = f first s
    waits_more (path ∷ paths) first k s f q =
        noticed_more first (λ g. wait_all paths g k) (ask (Wait path) None s) _ (ask_more (Wait path) None s s.replies (wait_fits path r))
        (λ g s. waits_more paths g k s f q) (λ g w s h. waits_fine program w paths g k s h (λ x. q x w))

    unless_more : (k : TaskPart) (o : Option Fault) (s : State) → More (k s) (k (plus s)) → More (unless_failed k o s) (unless_failed k o (plus s))
    unless_more k None s f = f
    unless_more k (Some g) s f = refl

    synced_more : (outer : List (List ℕ)) (o o' : Out) → More o o' → More (synced outer o) (synced outer o')
    synced_more outer (Gave v s) o' h =
        subst (λ x. More (synced outer (Gave v s)) (synced outer x)) (sym h)
        (waits_more s.awaited None (unless_failed (Gave v)) (awaiting outer s) (λ g s. unless_more (Gave v) g s refl) (λ g w s h. unless_fine program w (Gave v) g s h h))
    synced_more outer (Returned v s) o' h =
        subst (λ x. More (synced outer (Returned v s)) (synced outer x)) (sym h)
        (waits_more s.awaited None (unless_failed (Returned v)) (awaiting outer s) (λ g s. unless_more (Returned v) g s refl) (λ g w s h. unless_fine program w (Returned v) g s h h))
    synced_more outer (Broke s) o' h = ap (synced outer) h
    synced_more outer (Continued s) o' h = ap (synced outer) h
    synced_more outer (Faulted f s) o' h = ap (synced outer) h
    synced_more outer (Asks op start s) o' h = synced_fine program (after op s) outer o' h
    synced_more outer Unfit o' h = ap (synced outer) h

    built_in_more : (f : BuiltIn) (vs : List Value) (s : State) → More (call_built_in f vs s) (call_built_in f vs (plus s))
    built_in_more built_in.Fetch (Task path ∷ []) s = ask_more (Fetch path) None s s.replies (fetch_fits path r)
    built_in_more built_in.Wait (Task path ∷ []) s = ask_more (Wait path) None s s.replies (wait_fits path r)
    built_in_more built_in.Yield [] s = ask_more Yield None s s.replies (yield_fits r)
    built_in_more f vs s = gives_more (applied f vs) s

    -- ---- trees

    -- where fewer than m turns are left
    record Mores (m : ℕ) : Type 0 where
      by : (l : Later) (s : State) → s.turns < m → More (go program l s) (go program l (plus s))

    abbrev does : Plan → TaskPart
    does = run program (go program)

    falls : (e : Plan) (s : State) → turns_of (does e s) ≤ s.turns
    falls = run_falls program (go program) (go_falls program)

    module _ (m : ℕ) (a : Mores m) where
      call_more : (o : Option BodyPlan) (vs : List Value) (s : State) → s.turns < suc m → More (call (go program) o vs s) (call (go program) o vs (plus s))
      call_more None vs s g = refl
      call_more (Some b) vs s g =
          enter_more s.turns m (nat_lt s.open_calls most_calls) _ s g (λ s2 g2. left_more (go program (whole b.code) (record s2 { variables = variables_of b vs })) _ _ _ (a.by (whole b.code) (record s2 { variables = variables_of b vs }) g2))

      call_of_more : (c : Callee) (vs : List Value) (s : State) → s.turns < suc m → More (call_of program (go program) c vs s) (call_of program (go program) c vs (plus s))
      call_of_more (callee.Function i) vs s g = call_more (slice_get program.functions i) vs s g
      call_of_more (callee.BuiltIn b) vs s g = built_in_more b vs s

      from_more : (first count : ℕ) (e : Plan) → ((s : State) → s.turns < suc m → More (does e s) (does e (plus s))) → (i last : ℤ) (s : State) → s.turns < suc m → More (turns_from (go program) first count e (does e) i last s) (turns_from (go program) first count e (does e) i last (plus s))
      from_more first count e f i last s g =
          either_more (int_le i last) _ _ s
          (turn_more s.turns m _ s g (λ s g2. looped_more (does e (renew_with first count (Int i) s)) _ _ s.turns (falls e (renew_with first count (Int i) s)) (f (renew_with first count (Int i) s) (omega arith))
          (λ s g3. a.by (range first count e (i +ℤ pos 1) last) s (omega arith)) (λ z. go_fine program z (range first count e (i +ℤ pos 1) last)))) refl

      mutual
        run_more : (e : Plan) (s : State) → s.turns < suc m → More (does e s) (does e (plus s))
        run_more (plan.literal l) s g = refl
        run_more (plan.variable x) s g = known_more (slice_get s.variables x) s
        run_more (plan.constant k) s g = known_more (slice_get s.constants k) s
        run_more (plan.assign x e) s g = bind_more (does e s) _ _ s.turns (falls e s) (run_more e s g) (λ v s g2. refl) (λ v z s h. h)
        run_more (plan.define k e) s g = bind_more (does e s) _ _ s.turns (falls e s) (run_more e s g) (λ v s g2. refl) (λ v z s h. h)
        run_more (plan.unary o e) s g = bind_more (does e s) _ _ s.turns (falls e s) (run_more e s g) (λ v s g2. gives_more (unary_of o v) s) (λ v z. gives_fine program z (unary_of o v))
        run_more (plan.operation e es) s g = bind_more (does e s) _ _ s.turns (falls e s) (run_more e s g) (λ v s g2. operands_more v es s (omega arith)) (λ v z. does_operands_fine program z v es)
        run_more (plan.comparison e es) s g = bind_more (does e s) _ _ s.turns (falls e s) (run_more e s g) (λ v s g2. comparisons_more v es s (omega arith)) (λ v z. does_comparisons_fine program z v es)
        run_more (plan.connection c e es) s g = bind_more (does e s) _ _ s.turns (falls e s) (run_more e s g) (λ v s g2. connection_more c v es s (omega arith)) (λ v z. does_connection_fine program z c v es)
        run_more (plan.branch cs e) s g = choices_more cs (does e) (run_more e) (λ z. does_fine program z e) s g
        run_more (plan.block es) s g = all_more Nothing es s g
        run_more (plan.while first count c b) s g =
            bind_more (does c s) _ _ s.turns (falls c s) (run_more c s g) (λ v s g2. test_more v _ _ s
            (turn_more s.turns m _ s (omega arith) (λ s g3. looped_more (does b (renew first count s)) _ _ s.turns (falls b (renew first count s)) (run_more b (renew first count s) (omega arith))
            (λ s g4. a.by (whole (plan.while first count c b)) s (omega arith)) (λ z. go_fine program z (whole (plan.while first count c b))))) refl)
            (λ v z s h. test_fine program z v _ _ s h (does_turn_fine program z first count c b s h) h)
        run_more (plan.for first count b c e) s g =
            bind_more (does b s) _ _ s.turns (falls b s) (run_more b s g) (λ v s g2. bind_more (does c s) _ _ s.turns (falls c s) (run_more c s (omega arith))
            (λ w s g3. bounds_more _ v w s (λ i j. from_more first count e (run_more e) i j s (omega arith)))
            (λ w z s h. bounds_fine program z _ v w s h (λ i j. does_from_fine program z first count e i j s h)))
            (λ v z s h. bind_fine program z (does c s) _ s.turns (falls c s) (does_fine program z c s h) (λ w s g3 h2. bounds_fine program z _ v w s h2 (λ i j. does_from_fine program z first count e i j s h2)))
        run_more (plan.call c es) s g = arguments_more c [] es s g
        run_more (plan.print ps) s g = pieces_more (Some []) ps s g
        run_more (plan.error t) s g = refl
        run_more (plan.spawn b xs awaits) s g = fork_more (slice_get program.tasks b) b xs awaits s
        run_more (plan.sync e) s g = synced_more s.awaited (does e (awaiting [] s)) _ (run_more e (awaiting [] s) g)
        run_more (plan.return e) s g = bind_more (does e s) _ _ s.turns (falls e s) (run_more e s g) (λ v s g2. refl) (λ v z s h. h)
        run_more plan.break s g = refl
        run_more plan.continue s g = refl

        operands_more : (v : Value) (es : Operands) (s : State) → s.turns < suc m → More (run_operands program (go program) v es s) (run_operands program (go program) v es (plus s))
        operands_more v plan.no_operands s g = refl
        operands_more v (plan.operand o e es) s g =
            bind_more (does e s) _ _ s.turns (falls e s) (run_more e s g) (λ w s g2. bind_more (gives (operated o v w) s) _ _ s.turns (gives_falls (operated o v w) s) (gives_more (operated o v w) s) (λ x s g3. operands_more x es s (omega arith)) (λ x z. does_operands_fine program z x es))
            (λ w z s h. bind_fine program z (gives (operated o v w) s) _ s.turns (gives_falls (operated o v w) s) (gives_fine program z (operated o v w) s h) (λ x s g3. does_operands_fine program z x es s))

        comparisons_more : (v : Value) (es : Comparisons) (s : State) → s.turns < suc m → More (run_comparisons program (go program) v es s) (run_comparisons program (go program) v es (plus s))
        comparisons_more v plan.no_comparisons s g = refl
        comparisons_more v (plan.compared o e es) s g =
            bind_more (does e s) _ _ s.turns (falls e s) (run_more e s g) (λ w s g2. holds_more (compared_by o v w) _ s (comparisons_more w es s (omega arith))) (λ w z s h. holds_fine program z (compared_by o v w) _ s h (does_comparisons_fine program z w es s h))

        connection_more : (c : Connective) (v : Value) (es : Plans) (s : State) → s.turns < suc m → More (run_connection program (go program) c v es s) (run_connection program (go program) c v es (plus s))
        connection_more c v plan.no_plans s g = refl
        connection_more c v (plan.plan e es) s g =
            proceed_more c v _ s (bind_more (does e s) _ _ s.turns (falls e s) (run_more e s g) (λ w s g2. connection_more c w es s (omega arith)) (λ w z. does_connection_fine program z c w es))

        choices_more : (cs : Choices) (k : TaskPart) → ((s : State) → s.turns < suc m → More (k s) (k (plus s))) → ((w : Reach) (s : State) → Left program w s → Fine program w (k s)) → (s : State) → s.turns < suc m → More (run_choices program (go program) cs k s) (run_choices program (go program) cs k (plus s))
        choices_more plan.no_choices k f q s g = f s g
        choices_more (plan.choice c e cs) k f q s g =
            bind_more (does c s) _ _ s.turns (falls c s) (run_more c s g) (λ v s g2. test_more v _ _ s (run_more e s (omega arith)) (choices_more cs k f q s (omega arith))) (λ v z s h. test_fine program z v _ _ s h (does_fine program z e s h) (does_choices_fine program z cs k (q z) s h))

        all_more : (v : Value) (es : Plans) (s : State) → s.turns < suc m → More (run_all program (go program) v es s) (run_all program (go program) v es (plus s))
        all_more v plan.no_plans s g = refl
        all_more v (plan.plan e es) s g = bind_more (does e s) _ _ s.turns (falls e s) (run_more e s g) (λ w s g2. all_more w es s (omega arith)) (λ w z. does_all_fine program z w es)

        arguments_more : (c : Callee) (vs : List Value) (es : Plans) (s : State) → s.turns < suc m → More (run_arguments program (go program) c vs es s) (run_arguments program (go program) c vs es (plus s))
        arguments_more c vs plan.no_plans s g = call_of_more c vs s g
        arguments_more c vs (plan.plan e es) s g = bind_more (does e s) _ _ s.turns (falls e s) (run_more e s g) (λ v s g2. arguments_more c (vs ++ v ∷ []) es s (omega arith)) (λ v z. does_arguments_fine program z c (vs ++ v ∷ []) es)

        pieces_more : (text : Option (List ℕ)) (ps : Pieces) (s : State) → s.turns < suc m → More (run_pieces program (go program) text ps s) (run_pieces program (go program) text ps (plus s))
        pieces_more text plan.no_pieces s g = print_more text s
        pieces_more text (plan.value_piece e ps) s g = bind_more (does e s) _ _ s.turns (falls e s) (run_more e s g) (λ v s g2. pieces_more (shown_with text (shown v)) ps s (omega arith)) (λ v z. does_pieces_fine program z (shown_with text (shown v)) ps)
        pieces_more text (plan.text_piece t ps) s g = pieces_more (shown_with text (text_of t)) ps s g

      later_more : (l : Later) (s : State) → s.turns < suc m → More (later program (go program) l s) (later program (go program) l (plus s))
      later_more (whole e) s g = run_more e s g
      later_more (range first count e i last) s g = from_more first count e (run_more e) i last s g

    goes_more : (m : ℕ) → Mores m
    goes_more zero = record { by = λ l s g. absurd (omega arith) }
    goes_more (suc m) = record {
      by = λ l s g.
          subst (λ o. More o (go program l (plus s))) (sym (goes program l s)) (subst (More (later program (go program) l s)) (sym (goes program l (plus s))) (later_more m (goes_more m) l s g));
    }

    -- whatever turns are left
    pub go_more : (l : Later) (s : State) → More (go program l s) (go program l (plus s))
    go_more l s = (goes_more (suc s.turns)).by l s (omega arith)

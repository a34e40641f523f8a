-- A tree does the same whatever more turns it is given; so it does what its parts do.
use Rattle.std.proofs.Common.{◌≡◌, ℕ, zero, suc, ◌+◌, ◌<◌, ◌≤◌, List, [], ◌∷◌, ◌++◌, Option, Some, None, Bool, true, false, refl, sym, ap, ◌∙◌, arith}
use Rattle.std.specs.Prelude.{ℤ, pos, ◌+ℤ◌, slice_get, nat_lt, int_le}
use Rattle.jt_base.specs.declared.value.Value.{Value}
use Rattle.jt_base.specs.declared.value.Value.TheVariants.{Int, Flag, Nothing, Task, Object}
use Rattle.jt_base.specs.Limits.{most_calls}
use Rattle.jt_syntax.specs.declared.operator.Connective.{Connective}
use Rattle.jt_syntax.specs.declared.operator.Connective.TheVariants as connective
use Rattle.jt_program.specs.declared.code.Callee.{Callee}
use Rattle.jt_program.specs.declared.code.Callee.TheVariants as callee
use Rattle.jt_program.specs.Plan.{Plan, Plans, Operands, Comparisons, Choices, Pieces, BodyPlan, ProgramPlan}
use Rattle.jt_program.specs.Plan as plan
use Rattle.jt_meaning.specs.State.{State, Out, Gave, Returned, Broke, Continued, Faulted, Asks, Unfit, TaskPart, turns_of, bind, turn_with, enter_with, renew, renew_with}
use Rattle.jt_meaning.specs.Values.{operated, compared_by, shown, shown_with, text_of}
use Rattle.jt_meaning.specs.Meaning.{gives, test, proceed, holds, looped, left, variables_of, awaiting, synced, Later, whole, range, either, bounds, turns_from, call, call_of, run, run_operands, run_comparisons, run_connection, run_choices, run_all, run_arguments, run_pieces, later, meaning, go}
use Rattle.jt_step.specs.Falls.{TurnsFall, gives_falls, run_falls, meaning_falls}

-- ---- what parts are put together by

pub bind_agrees : (o o' : Out) (k k' : Value → TaskPart) (n : ℕ) → o ≡ o' → turns_of o ≤ n → ((v : Value) (s : State) → s.turns ≤ n → k v s ≡ k' v s) → bind o k ≡ bind o' k'
bind_agrees o o' k k' n e h f = same o h ∙ ap (λ o. bind o k') e
  where
    same : (o : Out) → turns_of o ≤ n → bind o k ≡ bind o k'
    same (Gave v s) h = f v s h
    same (Returned v s) h = refl
    same (Broke s) h = refl
    same (Continued s) h = refl
    same (Faulted g s) h = refl
    same (Asks op start s) h = refl
    same Unfit h = refl

pub looped_agrees : (o o' : Out) (k k' : TaskPart) (n : ℕ) → o ≡ o' → turns_of o ≤ n → ((s : State) → s.turns ≤ n → k s ≡ k' s) → looped k o ≡ looped k' o'
looped_agrees o o' k k' n e h f = same o h ∙ ap (looped k') e
  where
    same : (o : Out) → turns_of o ≤ n → looped k o ≡ looped k' o
    same (Gave v s) h = f s h
    same (Continued s) h = f s h
    same (Returned v s) h = refl
    same (Broke s) h = refl
    same (Faulted g s) h = refl
    same (Asks op start s) h = refl
    same Unfit h = refl

pub test_agrees : (v : Value) (a b a' b' : TaskPart) (s : State) → a s ≡ a' s → b s ≡ b' s → test v a b s ≡ test v a' b' s
test_agrees (Flag true) a b a' b' s f g = f
test_agrees (Flag false) a b a' b' s f g = g
test_agrees (Int n) a b a' b' s f g = refl
test_agrees Nothing a b a' b' s f g = refl
test_agrees (Task path) a b a' b' s f g = refl
test_agrees (Object kind name) a b a' b' s f g = refl

pub proceed_agrees : (c : Connective) (v : Value) (k k' : TaskPart) (s : State) → k s ≡ k' s → proceed c v k s ≡ proceed c v k' s
proceed_agrees connective.And v k k' s f = test_agrees v k _ k' _ s f refl
proceed_agrees connective.Or v k k' s f = test_agrees v _ k _ k' s refl f

pub holds_agrees : (o : Option Bool) (k k' : TaskPart) (s : State) → k s ≡ k' s → holds o k s ≡ holds o k' s
holds_agrees (Some true) k k' s f = f
holds_agrees (Some false) k k' s f = refl
holds_agrees None k k' s f = refl

pub either_agrees : (x : Bool) (a b a' b' : TaskPart) (s : State) → a s ≡ a' s → b s ≡ b' s → either x a b s ≡ either x a' b' s
either_agrees true a b a' b' s f g = f
either_agrees false a b a' b' s f g = g

pub bounds_agrees : (k k' : ℤ → ℤ → TaskPart) (v w : Value) (s : State) → ((a b : ℤ) → k a b s ≡ k' a b s) → bounds k v w s ≡ bounds k' v w s
bounds_agrees k k' (Int a) (Int b) s f = f a b
bounds_agrees k k' v w s f = refl

pub turn_agrees : (t n : ℕ) (k k' : TaskPart) (s : State) → t < suc n → ((s : State) → s.turns < n → k s ≡ k' s) → turn_with t k s ≡ turn_with t k' s
turn_agrees zero n k k' s h f = refl
turn_agrees (suc t) n k k' s h f = f (record s { turns = t }) (omega arith)

pub enter_agrees : (t n : ℕ) (free : Bool) (k k' : TaskPart) (s : State) → t < suc n → ((s : State) → s.turns < n → k s ≡ k' s) → enter_with t free k s ≡ enter_with t free k' s
enter_agrees zero n free k k' s h f = refl
enter_agrees (suc t) n false k k' s h f = refl
enter_agrees (suc t) n true k k' s h f = f (record s { turns = t; open_calls = s.open_calls + 1 }) (omega arith)

-- ---- trees

-- two ways to do calls and further turns that do the same where fewer than n turns are left
pub record Agree (n : ℕ) (lower lower' : Later → TaskPart) : Type 0 where
  pub by : (l : Later) (s : State) → s.turns < n → lower l s ≡ lower' l s

call_agrees : (n : ℕ) (lower lower' : Later → TaskPart) (o : Option BodyPlan) (vs : List Value) (s : State) → Agree n lower lower' → s.turns < suc n → call lower o vs s ≡ call lower' o vs s
call_agrees n lower lower' None vs s a h = refl
call_agrees n lower lower' (Some b) vs s a h =
    enter_agrees s.turns n (nat_lt s.open_calls most_calls) _ _ s h (λ s2 h2. ap (left s.variables s.open_calls) (a.by (whole b.code) (record s2 { variables = variables_of b vs }) h2))

from_agrees : (n : ℕ) (lower lower' : Later → TaskPart) (first count : ℕ) (b : Plan) (body body' : TaskPart) → Agree n lower lower' → ((s : State) → turns_of (body s) ≤ s.turns) → ((s : State) → s.turns < suc n → body s ≡ body' s) → (i last : ℤ) (s : State) → s.turns < suc n → turns_from lower first count b body i last s ≡ turns_from lower' first count b body' i last s
from_agrees n lower lower' first count b body body' a g c i last s h =
    either_agrees (int_le i last) _ _ _ _ s
    (turn_agrees s.turns n _ _ s h (λ s g2. looped_agrees _ _ _ _ s.turns (c (renew_with first count (Int i) s) (omega arith)) (g (renew_with first count (Int i) s))
    (λ s g3. a.by (range first count b (i +ℤ pos 1) last) s (omega arith)))) refl

module _ (program : ProgramPlan) (n : ℕ) (lower lower' : Later → TaskPart) (f : TurnsFall lower) (a : Agree n lower lower') where
  falls : (e : Plan) (s : State) → turns_of (run program lower e s) ≤ s.turns
  falls = run_falls program lower f

  call_of_agrees : (c : Callee) (vs : List Value) (s : State) → s.turns < suc n → call_of program lower c vs s ≡ call_of program lower' c vs s
  call_of_agrees (callee.Function m) vs s h = call_agrees n lower lower' (slice_get program.functions m) vs s a h
  call_of_agrees (callee.BuiltIn g) vs s h = refl

  mutual
    pub run_agrees : (e : Plan) (s : State) → s.turns < suc n → run program lower e s ≡ run program lower' e s
    run_agrees (plan.literal l) s h = refl
    run_agrees (plan.variable x) s h = refl
    run_agrees (plan.constant k) s h = refl
    run_agrees (plan.assign x e) s h = bind_agrees _ _ _ _ s.turns (run_agrees e s h) (falls e s) (λ v s g. refl)
    run_agrees (plan.define k e) s h = bind_agrees _ _ _ _ s.turns (run_agrees e s h) (falls e s) (λ v s g. refl)
    run_agrees (plan.unary o e) s h = bind_agrees _ _ _ _ s.turns (run_agrees e s h) (falls e s) (λ v s g. refl)
    run_agrees (plan.operation e es) s h = bind_agrees _ _ _ _ s.turns (run_agrees e s h) (falls e s) (λ v s g. operands_agrees v es s (omega arith))
    run_agrees (plan.comparison e es) s h = bind_agrees _ _ _ _ s.turns (run_agrees e s h) (falls e s) (λ v s g. comparisons_agrees v es s (omega arith))
    run_agrees (plan.connection c e es) s h = bind_agrees _ _ _ _ s.turns (run_agrees e s h) (falls e s) (λ v s g. connection_agrees c v es s (omega arith))
    run_agrees (plan.branch cs e) s h = choices_agrees cs _ _ (run_agrees e) s h
    run_agrees (plan.block es) s h = all_agrees Nothing es s h
    run_agrees (plan.while first count c b) s h =
        bind_agrees _ _ _ _ s.turns (run_agrees c s h) (falls c s) (λ v s g. test_agrees v _ _ _ _ s
        (turn_agrees s.turns n _ _ s (omega arith) (λ s g. looped_agrees _ _ _ _ s.turns (run_agrees b (renew first count s) (omega arith)) (falls b (renew first count s)) (λ s g2. a.by (whole (plan.while first count c b)) s (omega arith)))) refl)
    run_agrees (plan.for first count b c e) s h =
        bind_agrees _ _ _ _ s.turns (run_agrees b s h) (falls b s) (λ v s g. bind_agrees _ _ _ _ s.turns (run_agrees c s (omega arith)) (falls c s)
        (λ w s g2. bounds_agrees _ _ v w s (λ i j. from_agrees n lower lower' first count e (run program lower e) (run program lower' e) a (falls e) (run_agrees e) i j s (omega arith))))
    run_agrees (plan.call c es) s h = arguments_agrees c [] es s h
    run_agrees (plan.print ps) s h = pieces_agrees (Some []) ps s h
    run_agrees (plan.error t) s h = refl
    run_agrees (plan.spawn b xs awaits) s h = refl
    run_agrees (plan.sync e) s h = ap (synced s.awaited) (run_agrees e (awaiting [] s) h)
    run_agrees (plan.return e) s h = bind_agrees _ _ _ _ s.turns (run_agrees e s h) (falls e s) (λ v s g. refl)
    run_agrees plan.break s h = refl
    run_agrees plan.continue s h = refl

    operands_agrees : (v : Value) (es : Operands) (s : State) → s.turns < suc n → run_operands program lower v es s ≡ run_operands program lower' v es s
    operands_agrees v plan.no_operands s h = refl
    operands_agrees v (plan.operand o e es) s h =
        bind_agrees _ _ _ _ s.turns (run_agrees e s h) (falls e s) (λ w s g. bind_agrees (gives (operated o v w) s) _ _ _ s.turns refl (gives_falls (operated o v w) s) (λ x s g2. operands_agrees x es s (omega arith)))

    comparisons_agrees : (v : Value) (es : Comparisons) (s : State) → s.turns < suc n → run_comparisons program lower v es s ≡ run_comparisons program lower' v es s
    comparisons_agrees v plan.no_comparisons s h = refl
    comparisons_agrees v (plan.compared o e es) s h =
        bind_agrees _ _ _ _ s.turns (run_agrees e s h) (falls e s) (λ w s g. holds_agrees (compared_by o v w) _ _ s (comparisons_agrees w es s (omega arith)))

    connection_agrees : (c : Connective) (v : Value) (es : Plans) (s : State) → s.turns < suc n → run_connection program lower c v es s ≡ run_connection program lower' c v es s
    connection_agrees c v plan.no_plans s h = refl
    connection_agrees c v (plan.plan e es) s h =
        proceed_agrees c v _ _ s (bind_agrees _ _ _ _ s.turns (run_agrees e s h) (falls e s) (λ w s g. connection_agrees c w es s (omega arith)))

    choices_agrees : (cs : Choices) (k k' : TaskPart) → ((s : State) → s.turns < suc n → k s ≡ k' s) → (s : State) → s.turns < suc n → run_choices program lower cs k s ≡ run_choices program lower' cs k' s
    choices_agrees plan.no_choices k k' q s h = q s h
    choices_agrees (plan.choice c e cs) k k' q s h =
        bind_agrees _ _ _ _ s.turns (run_agrees c s h) (falls c s) (λ v s g. test_agrees v _ _ _ _ s (run_agrees e s (omega arith)) (choices_agrees cs k k' q s (omega arith)))

    all_agrees : (v : Value) (es : Plans) (s : State) → s.turns < suc n → run_all program lower v es s ≡ run_all program lower' v es s
    all_agrees v plan.no_plans s h = refl
    all_agrees v (plan.plan e es) s h = bind_agrees _ _ _ _ s.turns (run_agrees e s h) (falls e s) (λ w s g. all_agrees w es s (omega arith))

    arguments_agrees : (c : Callee) (vs : List Value) (es : Plans) (s : State) → s.turns < suc n → run_arguments program lower c vs es s ≡ run_arguments program lower' c vs es s
    arguments_agrees c vs plan.no_plans s h = call_of_agrees c vs s h
    arguments_agrees c vs (plan.plan e es) s h = bind_agrees _ _ _ _ s.turns (run_agrees e s h) (falls e s) (λ v s g. arguments_agrees c (vs ++ v ∷ []) es s (omega arith))

    pieces_agrees : (text : Option (List ℕ)) (ps : Pieces) (s : State) → s.turns < suc n → run_pieces program lower text ps s ≡ run_pieces program lower' text ps s
    pieces_agrees text plan.no_pieces s h = refl
    pieces_agrees text (plan.value_piece e ps) s h = bind_agrees _ _ _ _ s.turns (run_agrees e s h) (falls e s) (λ v s g. pieces_agrees (shown_with text (shown v)) ps s (omega arith))
    pieces_agrees text (plan.text_piece t ps) s h = pieces_agrees (shown_with text (text_of t)) ps s h

  pub later_agrees : (l : Later) (s : State) → s.turns < suc n → later program lower l s ≡ later program lower' l s
  later_agrees (whole e) s h = run_agrees e s h
  later_agrees (range first count e i last) s h = from_agrees n lower lower' first count e (run program lower e) (run program lower' e) a (falls e) (run_agrees e) i last s h

module _ (program : ProgramPlan) where
  -- any two bounds above the turns that are left agree
  pub meaning_agrees : (n m : ℕ) → n ≤ m → Agree n (meaning program n) (meaning program m)
  unfolding meaning
  meaning_agrees zero m h = record { by = λ l s g. absurd (omega arith) }
  meaning_agrees (suc n) zero h = absurd (omega arith)
  meaning_agrees (suc n) (suc m) h = record { by = later_agrees program n (meaning program n) (meaning program m) (meaning_falls program n) (meaning_agrees n m (omega arith)) }

  pub go_agrees : (n : ℕ) → Agree n (meaning program n) (go program)
  unfolding go
  go_agrees n = record { by = λ l s h. sym ((meaning_agrees (suc s.turns) n (omega arith)).by l s (omega arith)) }

  -- what is done once a turn is taken does what its parts do
  pub goes : (l : Later) (s : State) → go program l s ≡ later program (go program) l s
  unfolding go meaning
  goes l s = later_agrees program s.turns (meaning program s.turns) (go program) (meaning_falls program s.turns) (go_agrees s.turns) l s (omega arith)

-- Each rule looks no further than the token at which it is refused, and more turns and openers change no outcome that didn't want them.
use Rattle.std.proofs.Common.{◌≡◌, ℕ, zero, suc, ◌-◌, ◌≤◌, Bool, true, false, List, [], ◌∷◌, Option, Some, None, codes, refl, sym, subst, arith}
use Rattle.std.specs.Str.{bytes_eq}
use Rattle.jt_syntax.specs.Tree.{Tree, Trees, Terms, Step, Form}
use Rattle.jt_syntax.specs.Tree as tree
use Rattle.jt_syntax.specs.declared.operator.ArithmeticOperator.TheVariants as arithmetic
use Rattle.jt_syntax.specs.declared.operator.AssignmentOperator.{AssignmentOperator}
use Rattle.jt_syntax.specs.declared.operator.AssignmentOperator.TheVariants as assignment
use Rattle.jt_syntax.specs.declared.operator.BinaryOperator.TheVariants as binary
use Rattle.jt_syntax.specs.declared.operator.Class.TheVariants as class
use Rattle.jt_syntax.specs.declared.operator.Connective.TheVariants as connective
use Rattle.jt_syntax.specs.declared.operator.UnaryOperator.{UnaryOperator}
use Rattle.jt_syntax.specs.declared.operator.UnaryOperator.TheVariants as unary_operator
use Rattle.jt_syntax.specs.declared.script.Identifier.{Identifier}
use Rattle.jt_syntax.specs.declared.script.PoolName.TheVariants as pools
use Rattle.jt_syntax.specs.declared.script.Schedule.{Schedule}
use Rattle.jt_syntax.specs.declared.script.Schedule.TheVariants as schedules
use Rattle.jt_syntax.specs.declared.token.Sign.{Sign}
use Rattle.jt_syntax.specs.declared.token.Sign.TheVariants as sign
use Rattle.jt_syntax.specs.declared.token.TokenKind.{TokenKind}
use Rattle.jt_syntax.specs.declared.token.TokenKind.TheVariants as kind
use Rattle.jt_grammar.specs.declared.Level.{Level}
use Rattle.jt_grammar.specs.declared.Level.TheVariants as levels
use Rattle.jt_grammar.specs.declared.Target.{Target}
use Rattle.jt_grammar.specs.declared.Target.TheVariants as targets
use Rattle.jt_grammar.specs.Grammar.{unary_sign, power_sign}
use Rattle.jt_grammar.specs.Reader.{Parser, ◌>>=◌, ◌>>◌, pure, skip, by_kind, word_by, word, letters_by, letters, quoted_by, quoted, truth, joined_chain, is_separator, ends, target, step_target, assignment_of, notified_with_all, notified_alone}
use Rattle.jt_grammar.specs.Reader as r
use Rattle.jt_grammar.specs.Joined.{demanded}
use Rattle.jt_grammar.proofs.MovingSteps.{Moving, bind, then_moving, pure_moving, skip_moving, refuse_moving, spent_moving, by_kind_moving, by_place_moving, choice_moving, if_moving, test_moving, on_moving, expect_moving, Reach, Closed, closed_behind, closed_before, closed_opening, Refused, entering_moving, plain_opening_moving, opening_moving, weaker, chained_moving, guarded_terms_moving, comma_list_moving, body_moving, tail_moving}

-- ---- tokens that hold something

word_by_moving : {D : TokenKind → Type 0} (k : TokenKind) → Moving D (word_by k) (word_by k)
word_by_moving (kind.Name n) = bind skip_moving (λ t. pure_moving _)
word_by_moving (kind.Sign _) = refuse_moving
word_by_moving (kind.Number _) = refuse_moving
word_by_moving (kind.Text _) = refuse_moving

word_moving : {D : TokenKind → Type 0} → Moving D word word
unfolding word
word_moving = by_kind_moving word_by_moving

letters_by_moving : {D : TokenKind → Type 0} (w : List ℕ) (k : TokenKind) → Moving D (letters_by w k) (letters_by w k)
letters_by_moving w (kind.Name n) = if_moving (bytes_eq n w) skip_moving refuse_moving
letters_by_moving w (kind.Sign _) = refuse_moving
letters_by_moving w (kind.Number _) = refuse_moving
letters_by_moving w (kind.Text _) = refuse_moving

letters_moving : {D : TokenKind → Type 0} (w : List ℕ) → Moving D (letters w) (letters w)
unfolding letters
letters_moving w = by_kind_moving (letters_by_moving w)

quoted_by_moving : {D : TokenKind → Type 0} (k : TokenKind) → Moving D (quoted_by k) (quoted_by k)
quoted_by_moving (kind.Text t) = then_moving skip_moving (pure_moving t)
quoted_by_moving (kind.Sign _) = refuse_moving
quoted_by_moving (kind.Number _) = refuse_moving
quoted_by_moving (kind.Name _) = refuse_moving

quoted_moving : {D : TokenKind → Type 0} → Moving D quoted quoted
unfolding quoted
quoted_moving = by_kind_moving quoted_by_moving

truth_moving : {D : TokenKind → Type 0} → Moving D truth truth
unfolding truth
truth_moving = on_moving sign.True (then_moving skip_moving (pure_moving true)) (then_moving (expect_moving sign.False) (pure_moving false))

-- ---- the rules

module _ (n n' d d' : ℕ) (fewer : n ≤ n') (shallower : d ≤ d') (expr expr' : Level → Parser Tree) (step step' : Parser Step)
    (expr_moving : (l : Level) → Moving (Reach d d') (expr l) (expr' l)) (step_moving : Moving (Reach d d') step step')
    (loop_closed : d' ≡ 1 → Closed (expr' levels.Loop)) where
  -- what is read as it was with the same number of openers
  abbrev Goes : {A : Type 0} → Parser A → Parser A → Type 0
  Goes p q = Moving (Reach d d') p q

  opener : (s : Sign) → demanded (kind.Sign s) ≡ 0 → Goes (r.opening d s) (r.opening d' s)
  opener s e = plain_opening_moving d d' s shallower e

  grouped_moving : Goes (r.grouped n d expr step) (r.grouped n' d' expr' step')
  grouped_moving = bind (opener sign.Open refl) (λ _. bind (expr_moving levels.Whole) (λ e. bind (expect_moving sign.Close) (λ _. pure_moving (tree.group e))))

  negated_moving : (s : Sign) (o : UnaryOperator) → demanded (kind.Sign s) ≡ 0 → Goes (r.negated n d expr step s o) (r.negated n' d' expr' step' s o)
  negated_moving s o z = bind (opener s z) (λ _. bind (expr_moving levels.Operand) (λ e. pure_moving (tree.unary o e)))

  arguments_moving : Goes (r.arguments n d expr step) (r.arguments n' d' expr' step')
  arguments_moving = comma_list_moving n n' fewer (expr_moving levels.Whole) tree.no_trees tree.tree

  notify_all_moving : (e : Tree) → Goes (r.notify_all n d expr step e) (r.notify_all n' d' expr' step' e)
  notify_all_moving e = bind (expect_moving sign.Assign) (λ _. bind truth_moving (λ b. bind (expect_moving sign.Close) (λ _. pure_moving (tree.notify e b))))

  with_all_moving : (o : Option Tree) → Goes (r.with_all n d expr step o) (r.with_all n' d' expr' step' o)
  with_all_moving (Some e) = notify_all_moving e
  with_all_moving None = refuse_moving

  alone_moving : (o : Option Tree) → Goes (r.alone n d expr step o) (r.alone n' d' expr' step' o)
  alone_moving (Some e) = then_moving skip_moving (then_moving (letters_moving (codes "all")) (notify_all_moving e))
  alone_moving None = refuse_moving

  call_ended_moving : (i : Identifier) (es : Trees) → Goes (r.call_ended n d expr step i es) (r.call_ended n' d' expr' step' i es)
  call_ended_moving i es =
      on_moving sign.Close (then_moving skip_moving (pure_moving (tree.call i es)))
      (on_moving sign.Assign (with_all_moving (notified_with_all i es)) (on_moving sign.Semicolon (alone_moving (notified_alone i es)) refuse_moving))

  called_moving : (i : Identifier) → Goes (r.called n d expr step i) (r.called n' d' expr' step' i)
  called_moving i = bind (opener sign.Open refl) (λ _. bind arguments_moving (λ es. call_ended_moving i es))

  element_moving : (i : Identifier) → Goes (r.element n d expr step i) (r.element n' d' expr' step' i)
  element_moving i = bind (opener sign.OpenSquare refl) (λ _. bind (expect_moving sign.CloseSquare) (λ _. pure_moving (tree.read i)))

  named_by_moving : (i : Identifier) → Goes (r.named_by n d expr step i) (r.named_by n' d' expr' step' i)
  named_by_moving i = on_moving sign.Open (called_moving i) (on_moving sign.OpenSquare (element_moving i) (pure_moving (tree.name i)))

  named_moving : Goes (r.named n d expr step) (r.named n' d' expr' step')
  named_moving = bind word_moving named_by_moving

  interpolated_moving : Goes (r.interpolated n d expr step) (r.interpolated n' d' expr' step')
  interpolated_moving = bind skip_moving (λ t. bind word_moving (λ i. pure_moving (tree.interpolation t.at i)))

  item_by_moving : (k : TokenKind) → Goes (r.item_by n d expr step k) (r.item_by n' d' expr' step' k)
  item_by_moving (kind.Text t) = then_moving skip_moving (pure_moving (tree.text t))
  item_by_moving (kind.Sign _) = expr_moving levels.Whole
  item_by_moving (kind.Number _) = expr_moving levels.Whole
  item_by_moving (kind.Name _) = expr_moving levels.Whole

  item_moving : Goes (r.item n d expr step) (r.item n' d' expr' step')
  unfolding r.item
  item_moving = by_kind_moving item_by_moving

  printed_moving : Goes (r.printed n d expr step) (r.printed n' d' expr' step')
  printed_moving =
      bind skip_moving (λ _. bind (opener sign.Open refl) (λ _. bind (comma_list_moving n n' fewer item_moving tree.no_trees tree.tree) (λ es. bind (expect_moving sign.Close) (λ _. pure_moving (tree.println es)))))

  failing_moving : Goes (r.failing n d expr step) (r.failing n' d' expr' step')
  failing_moving = bind skip_moving (λ _. bind (opener sign.Open refl) (λ _. bind quoted_moving (λ t. bind (expect_moving sign.Close) (λ _. pure_moving (tree.error t)))))

  of_int64_moving : Goes (r.of_int64 n d expr step) (r.of_int64 n' d' expr' step')
  of_int64_moving = then_moving (opener sign.OpenCurly refl) (then_moving (expect_moving sign.Int64) (expect_moving sign.CloseCurly))

  channelled_moving : Goes (r.channelled n d expr step) (r.channelled n' d' expr' step')
  channelled_moving =
      bind skip_moving (λ _. bind of_int64_moving (λ _. bind (opener sign.Open refl) (λ _.
      on_moving sign.Close (then_moving skip_moving (pure_moving tree.unbuffered)) (bind (expr_moving levels.Whole) (λ e. bind (expect_moving sign.Close) (λ _. pure_moving (tree.channel e)))))))

  atomic_made_moving : Goes (r.atomic_made n d expr step) (r.atomic_made n' d' expr' step')
  atomic_made_moving =
      bind skip_moving (λ _. bind of_int64_moving (λ _. bind (opener sign.Open refl) (λ _. bind (expr_moving levels.Whole) (λ e. bind (expect_moving sign.Close) (λ _. pure_moving (tree.atomic e))))))

  limit_moving : (e : Tree) → Goes (r.limit n d expr step e) (r.limit n' d' expr' step' e)
  limit_moving e = bind skip_moving (λ _. bind (opener sign.Open refl) (λ _. bind (expect_moving sign.Int64) (λ _. bind (expect_moving sign.Close) (λ _. pure_moving e))))

  ranged_moving : Goes (r.ranged n d expr step) (r.ranged n' d' expr' step')
  ranged_moving =
      bind (expr_moving levels.Sum) (λ a. bind (expect_moving sign.Colon) (λ _. bind (expr_moving levels.Sum) (λ b. bind (expect_moving sign.Close) (λ _. pure_moving (tree.random_in a b)))))

  drawn_moving : Goes (r.drawn n d expr step) (r.drawn n' d' expr' step')
  drawn_moving =
      bind skip_moving (λ _. bind (opener sign.Open refl) (λ _. on_moving sign.Int64 (then_moving skip_moving (then_moving (expect_moving sign.Close) (pure_moving tree.random))) ranged_moving))

  primary_by_moving : (k : TokenKind) → Goes (r.primary_by n d expr step k) (r.primary_by n' d' expr' step' k)
  primary_by_moving (kind.Number m) = then_moving skip_moving (pure_moving (tree.number m))
  primary_by_moving (kind.Name m) = named_moving
  primary_by_moving (kind.Text t) = refuse_moving
  primary_by_moving (kind.Sign sign.True) = then_moving skip_moving (pure_moving (tree.truth true))
  primary_by_moving (kind.Sign sign.False) = then_moving skip_moving (pure_moving (tree.truth false))
  primary_by_moving (kind.Sign sign.Dollar) = interpolated_moving
  primary_by_moving (kind.Sign sign.Open) = grouped_moving
  primary_by_moving (kind.Sign sign.Println) = printed_moving
  primary_by_moving (kind.Sign sign.Error) = failing_moving
  primary_by_moving (kind.Sign sign.Channel) = channelled_moving
  primary_by_moving (kind.Sign sign.Atomic) = atomic_made_moving
  primary_by_moving (kind.Sign sign.TypeMin) = limit_moving tree.least
  primary_by_moving (kind.Sign sign.TypeMax) = limit_moving tree.greatest
  primary_by_moving (kind.Sign sign.Rand) = drawn_moving
  primary_by_moving (kind.Sign _) = refuse_moving

  primary_moving : Goes (r.primary n d expr step) (r.primary n' d' expr' step')
  unfolding r.primary
  primary_moving = by_kind_moving primary_by_moving

  raised_moving : (a : Tree) → Goes (r.raised n d expr step a) (r.raised n' d' expr' step' a)
  raised_moving a = entering_moving d d' power_sign shallower refl (bind (expr_moving levels.Operand) (λ b. pure_moving (tree.power a b))) (pure_moving a)

  power_moving : Goes (r.power n d expr step) (r.power n' d' expr' step')
  unfolding r.power
  power_moving = bind primary_moving raised_moving

  operand_by_moving : (k : TokenKind) → Goes (r.operand_by n d expr step k) (r.operand_by n' d' expr' step' k)
  operand_by_moving (kind.Sign (sign.Binary (binary.Arithmetic arithmetic.Subtract))) = negated_moving (unary_sign unary_operator.Minus) unary_operator.Minus refl
  operand_by_moving (kind.Sign (sign.Binary (binary.Arithmetic arithmetic.Add))) = negated_moving (unary_sign unary_operator.Plus) unary_operator.Plus refl
  operand_by_moving (kind.Sign sign.Not) = negated_moving sign.Not unary_operator.Not refl
  operand_by_moving (kind.Sign sign.Tilde) = negated_moving sign.Tilde unary_operator.Complement refl
  operand_by_moving (kind.Sign _) = power_moving
  operand_by_moving (kind.Number _) = power_moving
  operand_by_moving (kind.Name _) = power_moving
  operand_by_moving (kind.Text _) = power_moving

  operand_moving : Goes (r.operand n d expr step) (r.operand n' d' expr' step')
  unfolding r.operand
  operand_moving = by_kind_moving operand_by_moving

  shift_moving : Goes (r.shift n d expr step) (r.shift n' d' expr' step')
  unfolding r.shift
  shift_moving = chained_moving class.Shift operand_moving n n' fewer

  product_moving : Goes (r.product n d expr step) (r.product n' d' expr' step')
  unfolding r.product
  product_moving = chained_moving class.Product shift_moving n n' fewer

  sum_moving : Goes (r.sum n d expr step) (r.sum n' d' expr' step')
  unfolding r.sum
  sum_moving = chained_moving class.Sum product_moving n n' fewer

  comparison_moving : Goes (r.comparison n d expr step) (r.comparison n' d' expr' step')
  unfolding r.comparison
  comparison_moving = chained_moving class.Comparison sum_moving n n' fewer

  conjunction_moving : Goes (r.conjunction n d expr step) (r.conjunction n' d' expr' step')
  unfolding r.conjunction
  conjunction_moving = chained_moving class.And comparison_moving n n' fewer

  disjunction_moving : Goes (r.disjunction n d expr step) (r.disjunction n' d' expr' step')
  unfolding r.disjunction
  disjunction_moving = chained_moving class.Or conjunction_moving n n' fewer

  chosen_moving : (c : Tree) → Goes (r.chosen n d expr step c) (r.chosen n' d' expr' step' c)
  chosen_moving c =
      entering_moving d d' sign.Question shallower refl (bind (expr_moving levels.Condition) (λ a. bind (expect_moving sign.Colon) (λ _. bind (expr_moving levels.Condition) (λ b. pure_moving (tree.conditional c a b))))) (pure_moving c)

  condition_moving : Goes (r.condition n d expr step) (r.condition n' d' expr' step')
  unfolding r.condition
  condition_moving = bind disjunction_moving chosen_moving

  -- ---- blocks

  block_body_moving : Goes (r.body n d expr step) (r.body n' d' expr' step')
  block_body_moving = body_moving n n' fewer step_moving tree.no_steps tree.step

  block_tail_moving : Goes (r.tail n d expr step) (r.tail n' d' expr' step')
  block_tail_moving = tail_moving n n' fewer step_moving tree.no_steps tree.step

  blocked_moving : Goes (r.blocked n d expr step) (r.blocked n' d' expr' step')
  blocked_moving = bind (opener sign.Begin refl) (λ _. bind block_body_moving (λ ss. bind (expect_moving sign.End) (λ _. pure_moving (tree.block ss))))

  arms_moving : (k k' : ℕ) → k ≤ k' → Goes (r.arms n d expr step k) (r.arms n' d' expr' step' k')
  unfolding r.arms
  arms_moving zero k' h = spent_moving (r.arms n' d' expr' step' k')
  arms_moving (suc k) zero h = absurd (omega (arith, h))
  arms_moving (suc k) (suc k') h =
      on_moving sign.ElseIf
      (bind skip_moving (λ _. bind (expr_moving levels.Condition) (λ c. bind block_tail_moving (λ ss. bind (arms_moving k k' (omega (arith, h))) (λ rest. pure_moving (tree.arm c ss rest))))))
      (on_moving sign.Else (bind skip_moving (λ _. bind block_body_moving (λ ss. pure_moving (tree.otherwise ss)))) (pure_moving tree.no_arms))

  branched_moving : Goes (r.branched n d expr step) (r.branched n' d' expr' step')
  branched_moving =
      bind (opener sign.If refl) (λ _. bind (expr_moving levels.Condition) (λ c. bind block_tail_moving (λ ss. bind (arms_moving n n' fewer) (λ rest. bind (expect_moving sign.End) (λ _. pure_moving (tree.branches c ss rest))))))

  repeated_moving : Goes (r.repeated n d expr step) (r.repeated n' d' expr' step')
  repeated_moving = bind (opener sign.While refl) (λ _. bind (expr_moving levels.Condition) (λ c. bind block_tail_moving (λ ss. bind (expect_moving sign.End) (λ _. pure_moving (tree.while c ss)))))

  loop_header_moving : Goes (r.loop_header n d expr step) (r.loop_header n' d' expr' step')
  loop_header_moving = bind (opener sign.For refl) (λ _. bind word_moving (λ i. bind (on_moving sign.In skip_moving (expect_moving sign.Assign)) (λ _. pure_moving i)))

  each_looped_moving : (i : Identifier) (e : Tree) → Goes (r.each_looped n d expr step i e) (r.each_looped n' d' expr' step' i e)
  each_looped_moving i e = bind block_tail_moving (λ ss. bind (expect_moving sign.End) (λ _. pure_moving (tree.for_each i e ss)))

  range_looped_moving : (i : Identifier) (a : Tree) → Goes (r.range_looped n d expr step i a) (r.range_looped n' d' expr' step' i a)
  range_looped_moving i a =
      bind (expect_moving sign.Colon) (λ _. bind (expr_moving levels.Sum) (λ b. bind block_tail_moving (λ ss. bind (expect_moving sign.End) (λ _. pure_moving (tree.for_range i a b ss)))))

  looped_over_moving : (i : Identifier) (e : Tree) → Goes (r.looped_over n d expr step i e) (r.looped_over n' d' expr' step' i e)
  unfolding r.is_sum
  looped_over_moving i e = on_moving sign.Colon (choice_moving (r.is_sum n d expr step e) (range_looped_moving i e) (each_looped_moving i e)) (each_looped_moving i e)

  looped_moving : Goes (r.looped n d expr step) (r.looped n' d' expr' step')
  looped_moving = bind loop_header_moving (λ i. bind (expr_moving levels.Condition) (λ e. looped_over_moving i e))

  range_loop_moving : Goes (r.range_loop n d expr step) (r.range_loop n' d' expr' step')
  unfolding r.range_loop
  range_loop_moving = bind loop_header_moving (λ i. bind (expr_moving levels.Sum) (λ a. range_looped_moving i a))

  -- ---- macros

  pool_by_moving : (k : TokenKind) → Goes (r.pool_by n d expr step k) (r.pool_by n' d' expr' step' k)
  pool_by_moving (kind.Name w) =
      choice_moving (bytes_eq w (codes "default")) (then_moving skip_moving (pure_moving (Some pools.Default)))
      (choice_moving (bytes_eq w (codes "interactive")) (then_moving skip_moving (pure_moving (Some pools.Interactive))) refuse_moving)
  pool_by_moving (kind.Sign _) = refuse_moving
  pool_by_moving (kind.Number _) = refuse_moving
  pool_by_moving (kind.Text _) = refuse_moving

  pool_moving : Goes (r.pool n d expr step) (r.pool n' d' expr' step')
  unfolding r.pool
  pool_moving = on_moving sign.Colon (then_moving skip_moving (by_kind_moving pool_by_moving)) (pure_moving None)

  schedule_by_moving : (k : TokenKind) → Goes (r.schedule_by n d expr step k) (r.schedule_by n' d' expr' step' k)
  schedule_by_moving (kind.Name w) =
      choice_moving (bytes_eq w (codes "static")) (then_moving skip_moving (pure_moving (Some schedules.Static)))
      (choice_moving (bytes_eq w (codes "dynamic")) (then_moving skip_moving (pure_moving (Some schedules.Dynamic))) refuse_moving)
  schedule_by_moving (kind.Sign _) = refuse_moving
  schedule_by_moving (kind.Number _) = refuse_moving
  schedule_by_moving (kind.Text _) = refuse_moving

  schedule_moving : Goes (r.schedule n d expr step) (r.schedule n' d' expr' step')
  unfolding r.schedule
  schedule_moving = on_moving sign.Colon (then_moving skip_moving (by_kind_moving schedule_by_moving)) (pure_moving None)

  spawned_moving : Goes (r.spawned n d expr step) (r.spawned n' d' expr' step')
  spawned_moving = bind (opener sign.Spawn refl) (λ t. bind pool_moving (λ p. bind (expr_moving levels.Whole) (λ e. pure_moving (tree.spawn t.at p e))))

  async_spawned_moving : Goes (r.async_spawned n d expr step) (r.async_spawned n' d' expr' step')
  async_spawned_moving = bind (opener sign.Async refl) (λ t. bind (expr_moving levels.Whole) (λ e. pure_moving (tree.async t.at e)))

  awaited_moving : Goes (r.awaited n d expr step) (r.awaited n' d' expr' step')
  awaited_moving = bind (opener sign.Sync refl) (λ _. bind (expr_moving levels.Whole) (λ e. pure_moving (tree.sync e)))

  threads_of_moving : (at : ℕ) (s : Option Schedule) (e : Tree) → Goes (r.threads_of n d expr step at s e) (r.threads_of n' d' expr' step' at s e)
  threads_of_moving at s (tree.for_range i a b ss) = pure_moving (tree.threads at s i a b ss)
  threads_of_moving at s _ = refuse_moving

  threads_closed : Refused d' sign.Threads (skip >>= λ t. r.schedule n' d' expr' step' >>= λ s. expr' levels.Loop >>= λ e. r.threads_of n' d' expr' step' t.at s e)
  threads_closed some few =
      closed_behind skip (λ t. closed_behind (r.schedule n' d' expr' step') (λ s. closed_before (λ e. r.threads_of n' d' expr' step' t.at s e) (loop_closed (omega (arith, some, few)))))

  threaded_moving : Goes (r.threaded n d expr step) (r.threaded n' d' expr' step')
  threaded_moving = opening_moving d d' sign.Threads shallower threads_closed (λ t. bind schedule_moving (λ s. bind (expr_moving levels.Loop) (λ e. threads_of_moving t.at s e)))

  whole_by_moving : (k : TokenKind) → Goes (r.whole_by n d expr step k) (r.whole_by n' d' expr' step' k)
  whole_by_moving (kind.Sign sign.Begin) = blocked_moving
  whole_by_moving (kind.Sign sign.If) = branched_moving
  whole_by_moving (kind.Sign sign.While) = repeated_moving
  whole_by_moving (kind.Sign sign.For) = looped_moving
  whole_by_moving (kind.Sign sign.Spawn) = spawned_moving
  whole_by_moving (kind.Sign sign.Async) = async_spawned_moving
  whole_by_moving (kind.Sign sign.Sync) = awaited_moving
  whole_by_moving (kind.Sign sign.Threads) = threaded_moving
  whole_by_moving (kind.Sign _) = condition_moving
  whole_by_moving (kind.Number _) = condition_moving
  whole_by_moving (kind.Name _) = condition_moving
  whole_by_moving (kind.Text _) = condition_moving

  whole_moving : Goes (r.whole n d expr step) (r.whole n' d' expr' step')
  unfolding r.whole
  whole_moving = by_kind_moving whole_by_moving

  rule_moving : (l : Level) → Goes (r.rule n d expr step l) (r.rule n' d' expr' step' l)
  rule_moving levels.Operand = operand_moving
  rule_moving levels.Sum = sum_moving
  rule_moving levels.Condition = condition_moving
  rule_moving levels.Loop = range_loop_moving
  rule_moving levels.Whole = whole_moving

  -- ---- statements

  returned_moving : Goes (r.returned n d expr step) (r.returned n' d' expr' step')
  returned_moving =
      bind skip_moving (λ t. test_moving ends (pure_moving (tree.return_nothing t.at)) (test_moving is_separator (pure_moving (tree.return_nothing t.at)) (bind whole_moving (λ e. pure_moving (tree.return_value t.at e)))))

  leap_by_moving : (k : TokenKind) → Goes (r.leap_by n d expr step k) (r.leap_by n' d' expr' step' k)
  leap_by_moving (kind.Sign sign.Return) = returned_moving
  leap_by_moving (kind.Sign sign.Break) = bind skip_moving (λ t. pure_moving (tree.break_loop t.at))
  leap_by_moving (kind.Sign sign.Continue) = bind skip_moving (λ t. pure_moving (tree.continue_loop t.at))
  leap_by_moving (kind.Sign _) = refuse_moving
  leap_by_moving (kind.Number _) = refuse_moving
  leap_by_moving (kind.Name _) = refuse_moving
  leap_by_moving (kind.Text _) = refuse_moving

  leap_moving : Goes (r.leap n d expr step) (r.leap n' d' expr' step')
  unfolding r.leap
  leap_moving = by_kind_moving leap_by_moving

  assigned_to_moving : (e : Tree) (o : AssignmentOperator) (t : Target) → Goes (r.assigned_to n d expr step e o t) (r.assigned_to n' d' expr' step' e o t)
  assigned_to_moving e o (targets.Variable i) = bind skip_moving (λ _. bind whole_moving (λ v. pure_moving (tree.assign i o v)))
  assigned_to_moving e assignment.Plain (targets.Element i) = bind skip_moving (λ _. bind whole_moving (λ v. pure_moving (tree.store i v)))
  assigned_to_moving e _ (targets.Element i) = pure_moving (tree.value e)
  assigned_to_moving e o (targets.Function i is) = pure_moving (tree.value e)
  assigned_to_moving e o targets.Other = pure_moving (tree.value e)

  assigned_by_moving : (e : Tree) (o : Option AssignmentOperator) → Goes (r.assigned_by n d expr step e o) (r.assigned_by n' d' expr' step' e o)
  assigned_by_moving e (Some o) = assigned_to_moving e o (target e)
  assigned_by_moving e None = pure_moving (tree.value e)

  assigned_moving : (e : Tree) → Goes (r.assigned n d expr step e) (r.assigned n' d' expr' step' e)
  assigned_moving e = by_kind_moving (λ k. assigned_by_moving e (assignment_of k))

  or_guarded_moving : (e : Tree) (p : Terms × Bool) → Goes (r.or_guarded n d expr step e p) (r.or_guarded n' d' expr' step' e p)
  or_guarded_moving e p = choice_moving p.1 (bind leap_moving (λ j. pure_moving (tree.guard connective.Or e p.0 j))) (bind (chosen_moving (joined_chain class.Or e p.0)) assigned_moving)

  and_guarded_moving : (e : Tree) (p : Terms × Bool) → Goes (r.and_guarded n d expr step e p) (r.and_guarded n' d' expr' step' e p)
  and_guarded_moving e p =
      choice_moving p.1 (bind leap_moving (λ j. pure_moving (tree.guard connective.And e p.0 j))) (bind (guarded_terms_moving class.Or conjunction_moving n n' fewer) (or_guarded_moving (joined_chain class.And e p.0)))

  plain_step_moving : Goes (r.plain_step n d expr step) (r.plain_step n' d' expr' step')
  plain_step_moving = bind comparison_moving (λ e. bind (guarded_terms_moving class.And comparison_moving n n' fewer) (λ p. and_guarded_moving e p))

  jumped_moving : Goes (r.leap n d expr step >>= λ j. pure (tree.jump j)) (r.leap n' d' expr' step' >>= λ j. pure (tree.jump j))
  jumped_moving = bind leap_moving (λ j. pure_moving (tree.jump j))

  valued_moving : Goes (r.whole n d expr step >>= λ e. pure (tree.value e)) (r.whole n' d' expr' step' >>= λ e. pure (tree.value e))
  valued_moving = bind whole_moving (λ e. pure_moving (tree.value e))

  step_by_moving : (k : TokenKind) → Goes (r.step_by n d expr step k) (r.step_by n' d' expr' step' k)
  step_by_moving (kind.Sign sign.Return) = jumped_moving
  step_by_moving (kind.Sign sign.Break) = jumped_moving
  step_by_moving (kind.Sign sign.Continue) = jumped_moving
  step_by_moving (kind.Sign sign.Begin) = valued_moving
  step_by_moving (kind.Sign sign.If) = valued_moving
  step_by_moving (kind.Sign sign.While) = valued_moving
  step_by_moving (kind.Sign sign.For) = valued_moving
  step_by_moving (kind.Sign sign.Spawn) = valued_moving
  step_by_moving (kind.Sign sign.Async) = valued_moving
  step_by_moving (kind.Sign sign.Sync) = valued_moving
  step_by_moving (kind.Sign sign.Threads) = valued_moving
  step_by_moving (kind.Sign _) = plain_step_moving
  step_by_moving (kind.Number _) = plain_step_moving
  step_by_moving (kind.Name _) = plain_step_moving
  step_by_moving (kind.Text _) = plain_step_moving

  stepped_moving : Goes (r.stepped n d expr step) (r.stepped n' d' expr' step')
  unfolding r.stepped
  stepped_moving = by_kind_moving step_by_moving

  -- ---- what stands between two separators of a script

  using_read_moving : Goes (r.using_read n d expr step) (r.using_read n' d' expr' step')
  using_read_moving = bind skip_moving (λ _. bind (expect_moving sign.BaseThreads) (λ _. pure_moving tree.using_threads))

  constant_read_moving : Goes (r.constant_read n d expr step) (r.constant_read n' d' expr' step')
  constant_read_moving = bind skip_moving (λ _. bind word_moving (λ i. bind (expect_moving sign.Assign) (λ _. bind whole_moving (λ e. pure_moving (tree.constant i e)))))

  names_moving : Goes (r.names n d expr step) (r.names n' d' expr' step')
  names_moving = comma_list_moving n n' fewer word_moving [] (λ i is. i ∷ is)

  -- the parenthesis of a function stands behind an opener
  second_opener : Goes (r.opening (d - 1) sign.Open) (r.opening (d' - 1) sign.Open)
  second_opener = weaker (λ k h. omega (arith, h)) (plain_opening_moving (d - 1) (d' - 1) sign.Open (omega (arith, shallower)) refl)

  second_closed : d' ≡ 1 → Closed (r.opening (d' - 1) sign.Open)
  second_closed e = subst (λ k. Closed (r.opening (k - 1) sign.Open)) (sym e) (closed_opening sign.Open)

  abbrev behind_name : Identifier → Parser Form
  behind_name i = r.names n' d' expr' step' >>= λ is. r.expect sign.Close >>= λ _. r.tail n' d' expr' step' >>= λ ss. r.expect sign.End >>= λ _. pure (tree.function i is ss)

  function_closed : Refused d' sign.Function (skip >>= λ _. word >>= λ i. r.opening (d' - 1) sign.Open >>= λ _. behind_name i)
  function_closed some few = closed_behind skip (λ _. closed_behind word (λ i. closed_before (λ _. behind_name i) (second_closed (omega (arith, some, few)))))

  function_read_moving : Goes (r.function_read n d expr step) (r.function_read n' d' expr' step')
  function_read_moving =
      opening_moving d d' sign.Function shallower function_closed (λ _. bind word_moving (λ i. bind second_opener (λ _. bind names_moving (λ is. bind (expect_moving sign.Close) (λ _. bind block_tail_moving (λ ss. bind (expect_moving sign.End) (λ _. pure_moving (tree.function i is ss))))))))

  short_by_moving : (s : Step) (t : Target) → Goes (r.short_by n d expr step s t) (r.short_by n' d' expr' step' s t)
  short_by_moving s (targets.Function i is) = bind skip_moving (λ _. bind whole_moving (λ e. pure_moving (tree.short i is e)))
  short_by_moving s (targets.Variable i) = pure_moving (tree.plain s)
  short_by_moving s (targets.Element i) = pure_moving (tree.plain s)
  short_by_moving s targets.Other = pure_moving (tree.plain s)

  shortened_moving : (s : Step) → Goes (r.shortened n d expr step s) (r.shortened n' d' expr' step' s)
  shortened_moving s = on_moving sign.Assign (short_by_moving s (step_target s)) (pure_moving (tree.plain s))

  plain_read_moving : Goes (r.stepped n d expr step >>= r.shortened n d expr step) (r.stepped n' d' expr' step' >>= r.shortened n' d' expr' step')
  plain_read_moving = bind stepped_moving shortened_moving

  form_by_moving : (k : TokenKind) → Goes (r.form_by n d expr step k) (r.form_by n' d' expr' step' k)
  form_by_moving (kind.Sign sign.Using) = using_read_moving
  form_by_moving (kind.Sign sign.Const) = constant_read_moving
  form_by_moving (kind.Sign sign.Function) = function_read_moving
  form_by_moving (kind.Sign _) = plain_read_moving
  form_by_moving (kind.Number _) = plain_read_moving
  form_by_moving (kind.Name _) = plain_read_moving
  form_by_moving (kind.Text _) = plain_read_moving

  topped_moving : Goes (r.topped n d expr step) (r.topped n' d' expr' step')
  unfolding r.topped
  topped_moving =
      by_place_moving {f = λ at. by_kind (r.form_by n d expr step) >>= λ f. pure (at, f)} {g = λ at. by_kind (r.form_by n' d' expr' step') >>= λ f. pure (at, f)}
      (λ at. bind (by_kind_moving form_by_moving) (λ f. pure_moving (at, f)))

-- ---- one level inside the other

-- no loop where no opener more may be open
range_loop_closed : (n : ℕ) (expr : Level → Parser Tree) (step : Parser Step) → Closed (r.range_loop n 0 expr step)
unfolding r.range_loop
range_loop_closed n expr step = closed_before _ (closed_before _ (closed_opening sign.For))

read_loop_closed : (n d : ℕ) → d ≡ 1 → Closed (r.read n d levels.Loop)
unfolding r.read
read_loop_closed n d e = subst (λ k. Closed (r.read n k levels.Loop)) (sym e) (range_loop_closed n (r.read n 0) (r.read_step n 0))

below : (d d' : ℕ) (k : TokenKind) → Reach (suc d) (suc d') k → Reach d d' k
below d d' k h = omega (arith, h)

mutual
  unfolding r.read r.read_step

  pub read_moving : (n n' d d' : ℕ) → n ≤ n' → d ≤ d' → (l : Level) → Moving (Reach d d') (r.read n d l) (r.read n' d' l)
  read_moving n n' zero d' h s l = spent_moving (r.read n' d' l)
  read_moving n n' (suc d) zero h s l = absurd (omega (arith, s))
  read_moving n n' (suc d) (suc d') h s l =
      weaker (below d d') (rule_moving n n' d d' h (omega (arith, s)) _ _ _ _ (read_moving n n' d d' h (omega (arith, s))) (read_step_moving n n' d d' h (omega (arith, s))) (read_loop_closed n' d') l)

  pub read_step_moving : (n n' d d' : ℕ) → n ≤ n' → d ≤ d' → Moving (Reach d d') (r.read_step n d) (r.read_step n' d')
  read_step_moving n n' zero d' h s = spent_moving (r.read_step n' d')
  read_step_moving n n' (suc d) zero h s = absurd (omega (arith, s))
  read_step_moving n n' (suc d) (suc d') h s =
      weaker (below d d') (stepped_moving n n' d d' h (omega (arith, s)) _ _ _ _ (read_moving n n' d d' h (omega (arith, s))) (read_step_moving n n' d d' h (omega (arith, s))) (read_loop_closed n' d'))

pub script_moving : (n n' d d' : ℕ) → n ≤ n' → d ≤ d' → Moving (Reach d d') (r.script n d) (r.script n' d')
unfolding r.script r.read_top
script_moving n n' d d' h s =
    bind (body_moving n n' h (topped_moving n n' d d' h s _ _ _ _ (read_moving n n' d d' h s) (read_step_moving n n' d d' h s) (read_loop_closed n' d')) [] (λ x xs. x ∷ xs)) (λ tops. bind (expect_moving sign.Stop) (λ _. pure_moving tops))

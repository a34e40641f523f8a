-- What powers, unary operators, the chains of each class and conditionals explain.
use Rattle.std.proofs.Common.{◌≡◌, ℕ, Bool, true, false, List, [], ◌∷◌, ◌++◌, refl, sym, subst, append-nil, arith, lit≤}
use Rattle.jt_syntax.specs.Tree.{Tree, Step}
use Rattle.jt_syntax.specs.Tree as tree
use Rattle.jt_syntax.specs.declared.operator.ArithmeticOperator.TheVariants as arithmetic
use Rattle.jt_syntax.specs.declared.operator.BinaryOperator.TheVariants as binary
use Rattle.jt_syntax.specs.declared.operator.Class.TheVariants as class
use Rattle.jt_syntax.specs.declared.operator.UnaryOperator.{UnaryOperator}
use Rattle.jt_syntax.specs.declared.operator.UnaryOperator.TheVariants as unary_operator
use Rattle.jt_syntax.specs.declared.token.Sign.TheVariants as sign
use Rattle.jt_syntax.specs.declared.token.Token.{Token}
use Rattle.jt_syntax.specs.declared.token.TokenKind.{TokenKind}
use Rattle.jt_syntax.specs.declared.token.TokenKind.TheVariants as kind
use Rattle.jt_grammar.specs.declared.Level.{Level}
use Rattle.jt_grammar.specs.declared.Level.TheVariants as levels
use Rattle.jt_grammar.specs.Grammar.{At, Spells, unary_sign, power_sign}
use Rattle.jt_grammar.specs.Joined.{is_newline, is_opener}
use Rattle.jt_grammar.specs.Nesting.{Within}
use Rattle.jt_grammar.specs.Reader.{Parser, ◌>>=◌, pure, expect, raised, power, negated, operand_by, operand, shift, product, sum, comparison, conjunction, disjunction, chosen, condition}
use Rattle.jt_grammar.proofs.Steps.{Shows, After}
use Rattle.jt_grammar.proofs.SoundParts.{Given, And, Reads, given, part, done, deeper, opened, last, expected, opens_with, relaxed, either, kinds, entered, Free, opened_pair}
use Rattle.jt_grammar.proofs.SoundChains.{chained_reads}
use Rattle.jt_grammar.proofs.SoundCalls.{WithinBy, Below, zero_sample, marks, primary_reads}

module _ (n d : ℕ) (expr_in : Level → Parser Tree) (step_in : Parser Step) (below : Below n d expr_in step_in) where
  raised_reads : (a : Tree) (w : List Token) → At 11 a w → Reads (And Free (WithinBy d) a) (After w (At 10)) (WithinBy d) n (raised n d expr_in step_in a)
  raised_reads a w g = either power_sign _ _ (λ h. h)
      (entered power_sign d (After w (At 10)) (WithinBy d) (λ _. expr_in levels.Operand >>= λ b. pure (tree.power a b)) refl ([], a, bare, (λ b c. c.1), tt)
      (λ t e. last (λ b. tree.power a b) (given (λ _ c. c.1) below.operand) (λ b v h. (lit≤ tt, (w, _, refl, g, (t ∷ [], v, refl, marks e, h)))) (λ b i c k. (c.0.1, k))))
      (done bare (λ b c. c.1))
    where
      bare : At 10 a (w ++ [])
      bare = (omega (arith, g.0), subst (Spells a) (sym (append-nil w)) g.1)

  power_reads : Reads Free (At 10) (WithinBy d) n (power n d expr_in step_in)
  unfolding power
  power_reads = part (primary_reads n d expr_in step_in below) raised_reads

  power_operand : Reads Free (At 9) (WithinBy d) n (power n d expr_in step_in)
  power_operand = relaxed (λ e w a. (omega (arith, a.0), a.1)) (λ e b c k. k) power_reads

  negated_reads : (o : UnaryOperator) → is_newline (kind.Sign (unary_sign o)) ≡ false → is_opener (kind.Sign (unary_sign o)) ≡ true → Reads Free (At 9) (WithinBy d) n (negated n d expr_in step_in (unary_sign o) o)
  negated_reads o no_line is_open = opened (opens_with (unary_sign o) no_line is_open) (zero_sample d 9 (lit≤ tt))
      (λ t v x. last (λ e. tree.unary o e) (given (λ _ c. c.1) below.operand) (λ e w g. (lit≤ tt, (v, w, refl, (t.at, x), g))) (λ e b c k. k))

  operand_at : Given Free → (t : Token) (ts : List Token) (k : TokenKind) → t.kind ≡ k → Shows (At 9) (WithinBy d) n (t ∷ ts) (operand_by n d expr_in step_in k (t ∷ ts))
  operand_at c t ts (kind.Sign (sign.Binary (binary.Arithmetic arithmetic.Subtract))) e = (negated_reads unary_operator.Minus refl refl).explains c (t ∷ ts)
  operand_at c t ts (kind.Sign (sign.Binary (binary.Arithmetic arithmetic.Add))) e = (negated_reads unary_operator.Plus refl refl).explains c (t ∷ ts)
  operand_at c t ts (kind.Sign sign.Not) e = (negated_reads unary_operator.Not refl refl).explains c (t ∷ ts)
  operand_at c t ts (kind.Sign sign.Tilde) e = (negated_reads unary_operator.Complement refl refl).explains c (t ∷ ts)
  operand_at c t ts (kind.Sign s) e = power_operand.explains c (t ∷ ts)
  operand_at c t ts (kind.Number m) e = power_operand.explains c (t ∷ ts)
  operand_at c t ts (kind.Name m) e = power_operand.explains c (t ∷ ts)
  operand_at c t ts (kind.Text m) e = power_operand.explains c (t ∷ ts)

  pub operand_reads : Reads Free (At 9) (WithinBy d) n (operand n d expr_in step_in)
  unfolding operand
  operand_reads = kinds (operand_by n d expr_in step_in) (zero_sample d 9 (lit≤ tt)) operand_at (λ c. power_operand.explains c [])

  pub shift_reads : Reads Free (At 8) (WithinBy d) n (shift n d expr_in step_in)
  unfolding shift
  shift_reads = chained_reads (deeper d) n class.Shift (operand n d expr_in step_in) operand_reads

  pub product_reads : Reads Free (At 7) (WithinBy d) n (product n d expr_in step_in)
  unfolding product
  product_reads = chained_reads (deeper d) n class.Product (shift n d expr_in step_in) shift_reads

  pub sum_reads : Reads Free (At 6) (WithinBy d) n (sum n d expr_in step_in)
  unfolding sum
  sum_reads = chained_reads (deeper d) n class.Sum (product n d expr_in step_in) product_reads

  pub comparison_reads : Reads Free (At 5) (WithinBy d) n (comparison n d expr_in step_in)
  unfolding comparison
  comparison_reads = chained_reads (deeper d) n class.Comparison (sum n d expr_in step_in) sum_reads

  pub conjunction_reads : Reads Free (At 4) (WithinBy d) n (conjunction n d expr_in step_in)
  unfolding conjunction
  conjunction_reads = chained_reads (deeper d) n class.And (comparison n d expr_in step_in) comparison_reads

  pub disjunction_reads : Reads Free (At 3) (WithinBy d) n (disjunction n d expr_in step_in)
  unfolding disjunction
  disjunction_reads = chained_reads (deeper d) n class.Or (conjunction n d expr_in step_in) conjunction_reads

  pub chosen_reads : {C : Bool → Type 0} (c : Tree) (w : List Token) → At 3 c w → ((b : Bool) → C b → WithinBy d b c) → Reads C (After w (At 2)) (WithinBy d) n (chosen n d expr_in step_in c)
  chosen_reads {C} c w g within = either sign.Question _ _ (λ h. h)
      (entered sign.Question d (After w (At 2)) (WithinBy d) (λ _. expr_in levels.Condition >>= λ a. expect sign.Colon >>= λ _. expr_in levels.Condition >>= λ b. pure (tree.conditional c a b)) refl ([], c, bare, within, tt)
      (λ t e. part (given (λ _ x. x.1) below.condition)
      (λ a u h. part (expected sign.Colon refl)
      (λ q v m. last (λ b. tree.conditional c a b) (given (λ _ x. x.0.0.1) below.condition)
      (λ b z j. (lit≤ tt, (w, _, refl, g, (t ∷ [], _, refl, marks e, (u, _, refl, h, (v, z, refl, (q.at, m), j))))))
      (λ b i x k. (within i x.0.0.0, opened_pair (deeper d i) (λ k. Within k a) (λ k. Within k b) x.0.1 k))))))
      (done bare within)
    where
      bare : At 2 c (w ++ [])
      bare = (omega (arith, g.0), subst (Spells c) (sym (append-nil w)) g.1)

  pub condition_reads : Reads Free (At 2) (WithinBy d) n (condition n d expr_in step_in)
  unfolding condition
  condition_reads = part disjunction_reads (λ c w g. chosen_reads c w g (λ b x. x.1))

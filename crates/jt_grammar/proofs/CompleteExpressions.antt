-- Expressions without blocks and macros are read, level by level.
use Rattle.std.proofs.Common.{◌≡◌, ℕ, suc, ◌≤◌, true, true≢false, List, Ok, refl, sym, lit≤, lit<, arith}
use Rattle.jt_syntax.specs.declared.operator.UnaryOperator.{UnaryOperator}
use Rattle.jt_syntax.specs.declared.operator.UnaryOperator.TheVariants as unary_operator
use Rattle.jt_syntax.specs.Tree.{Tree, Step}
use Rattle.jt_syntax.specs.Tree as tree
use Rattle.jt_syntax.specs.declared.operator.ArithmeticOperator.TheVariants as arithmetic
use Rattle.jt_syntax.specs.declared.operator.BinaryOperator.TheVariants as binary
use Rattle.jt_syntax.specs.declared.operator.Class.TheVariants as class
use Rattle.jt_syntax.specs.declared.token.Sign.{Sign}
use Rattle.jt_syntax.specs.declared.token.Sign.TheVariants as sign
use Rattle.jt_syntax.specs.declared.token.Token.{Token}
use Rattle.jt_syntax.specs.declared.token.TokenKind.{TokenKind}
use Rattle.jt_syntax.specs.declared.token.TokenKind.TheVariants as kind
use Rattle.jt_grammar.specs.declared.Level.{Level}
use Rattle.jt_grammar.specs.Grammar.{◌▸◌, Mark, Held, Spells, level, unary_sign, power_sign}
use Rattle.jt_grammar.specs.Nesting.{Within}
use Rattle.jt_grammar.specs.Reader.{Parser, kind_of, primary, power, negated, operand_by, operand, shift, product, sum, comparison, conjunction, disjunction, chosen, condition}
use Rattle.jt_grammar.proofs.CompleteParts.{Kinds, Takes, then, last, mark, seen, opened, entered, on_yes, by, by_same, respell, known, lead_then, lead_mark}
use Rattle.jt_grammar.proofs.CompleteChains.{IsComplete, chain_complete}
use Rattle.jt_grammar.proofs.CompleteLevels.{AllRead}
use Rattle.jt_grammar.proofs.CompletePrimaries.{primary_complete}
use Rattle.jt_grammar.proofs.Front.{Stops, stops_looser, no_sign, starts_primary, lead_primary, class_least, class_most}

-- the forms that hold at least that tightly
pub held : {d n l : ℕ} {S : Kinds} {p : Parser Tree} → ((e : Tree) → l ≤ level e → Within d e → Takes n (Spells e) S p e) → (e : Tree) → Within d e → Takes n (Held l e (Spells e)) S p e
held f e k = record { takes = λ w rest g h s. (f e g.0 k).takes w rest g.1 h s }

module _ (n d : ℕ) (expr_in : Level → Parser Tree) (step_in : Parser Step) (below : (k : ℕ) → d ≡ suc k → AllRead n k expr_in step_in) where
  primary_held : (e : Tree) → Within d e → Takes n (Held 11 e (Spells e)) (Stops 11) (primary n d expr_in step_in) e
  primary_held = held (primary_complete n d expr_in step_in below)

  power_complete : (e : Tree) → 10 ≤ level e → Within d e → Takes n (Spells e) (Stops 9) (power n d expr_in step_in) e
  unfolding power
  power_complete (tree.power a b) h o = then _ (primary_held a o.0) (lead_then (lead_mark (lit< tt)))
      (on_yes power_sign _ _ (lead_then (lead_mark (known power_sign))) (entered (λ k. Within k b) d _ o.1 (λ k is_d o'. seen _ (λ at. last _ ((below k is_d).operand_read b o') (λ k s. s) (λ rest s. refl)))))
  power_complete (tree.chain c e es) h o = absurd (omega (arith, h, class_most c))
  power_complete e h o = last _ (primary_complete n d expr_in step_in below e (omega (arith, h)) o) (stops_looser 9 11 (lit≤ tt)) (λ rest s. rw (no_sign power_sign 9 (kind_of rest) (lit≤ tt) s) refl)

  operand_power : (e : Tree) → 10 ≤ level e → Within d e → Takes n (Spells e) (Stops 9) (operand n d expr_in step_in) e
  unfolding operand
  operand_power e h o = respell (Held 10 e (Spells e)) (λ w g. (h, g)) (by_same (operand_by n d expr_in step_in) (power n d expr_in step_in) (lead_primary e (lit≤ tt) primary-power) (held power_complete e o))
    where
      primary-power : (k : TokenKind) → starts_primary k ≡ true → operand_by n d expr_in step_in k ≡ power n d expr_in step_in
      primary-power (kind.Sign (sign.Binary (binary.Arithmetic arithmetic.Subtract))) s = absurd (true≢false (sym s))
      primary-power (kind.Sign (sign.Binary (binary.Arithmetic arithmetic.Add))) s = absurd (true≢false (sym s))
      primary-power (kind.Sign sign.Not) s = absurd (true≢false (sym s))
      primary-power (kind.Sign sign.Tilde) s = absurd (true≢false (sym s))
      primary-power (kind.Sign _) s = refl
      primary-power (kind.Number _) s = refl
      primary-power (kind.Name _) s = refl
      primary-power (kind.Text _) s = refl

  negated_complete : (s : Sign) (o : UnaryOperator) (e : Tree) → Within d (tree.unary o e) → Takes n (Mark s ▸ Held 9 e (Spells e)) (Stops 9) (negated n d expr_in step_in s o) (tree.unary o e)
  negated_complete s o e k = opened (λ j. Within j e) d _ k (λ j is_d k' at. last _ ((below j is_d).operand_read e k') (λ k s. s) (λ rest s. refl))

  unary_complete : (o : UnaryOperator) (e : Tree) → Within d (tree.unary o e) → Takes n (Spells (tree.unary o e)) (Stops 9) (operand n d expr_in step_in) (tree.unary o e)
  unfolding operand
  unary_complete unary_operator.Minus e k = by (operand_by n d expr_in step_in) (kind.Sign (unary_sign unary_operator.Minus)) (lead_then (lead_mark refl)) (negated_complete (unary_sign unary_operator.Minus) unary_operator.Minus e k)
  unary_complete unary_operator.Plus e k = by (operand_by n d expr_in step_in) (kind.Sign (unary_sign unary_operator.Plus)) (lead_then (lead_mark refl)) (negated_complete (unary_sign unary_operator.Plus) unary_operator.Plus e k)
  unary_complete unary_operator.Not e k = by (operand_by n d expr_in step_in) (kind.Sign sign.Not) (lead_then (lead_mark refl)) (negated_complete sign.Not unary_operator.Not e k)
  unary_complete unary_operator.Complement e k = by (operand_by n d expr_in step_in) (kind.Sign sign.Tilde) (lead_then (lead_mark refl)) (negated_complete sign.Tilde unary_operator.Complement e k)

  operand_form : (e : Tree) → 9 ≤ level e → Within d e → Takes n (Spells e) (Stops 9) (operand n d expr_in step_in) e
  operand_form (tree.unary o e) h k = unary_complete o e k
  operand_form (tree.chain c e es) h k = absurd (omega (arith, h, class_most c))
  operand_form e h k = operand_power e (omega (arith, h)) k

  pub operand_complete : IsComplete 9 d n (operand n d expr_in step_in)
  operand_complete = held operand_form

  shift_complete : IsComplete 8 d n (shift n d expr_in step_in)
  unfolding shift
  shift_complete = chain_complete class.Shift d n (operand n d expr_in step_in) operand_complete

  product_complete : IsComplete 7 d n (product n d expr_in step_in)
  unfolding product
  product_complete = chain_complete class.Product d n (shift n d expr_in step_in) shift_complete

  pub sum_complete : IsComplete 6 d n (sum n d expr_in step_in)
  unfolding sum
  sum_complete = chain_complete class.Sum d n (product n d expr_in step_in) product_complete

  pub comparison_complete : IsComplete 5 d n (comparison n d expr_in step_in)
  unfolding comparison
  comparison_complete = chain_complete class.Comparison d n (sum n d expr_in step_in) sum_complete

  pub conjunction_complete : IsComplete 4 d n (conjunction n d expr_in step_in)
  unfolding conjunction
  conjunction_complete = chain_complete class.And d n (comparison n d expr_in step_in) comparison_complete

  pub disjunction_complete : IsComplete 3 d n (disjunction n d expr_in step_in)
  unfolding disjunction
  disjunction_complete = chain_complete class.Or d n (conjunction n d expr_in step_in) conjunction_complete

  -- behind the condition of a `?`
  pub chosen_complete : (c a b : Tree) → Within d (tree.conditional c a b) → Takes n (Mark sign.Question ▸ Held 2 a (Spells a) ▸ Mark sign.Colon ▸ Held 2 b (Spells b)) (Stops 2) (chosen n d expr_in step_in c) (tree.conditional c a b)
  chosen_complete c a b o = on_yes sign.Question _ _ (lead_then (lead_mark (known sign.Question))) (entered (λ k. Within k a × Within k b) d _ o.1 (λ k is_d o'. seen _ (λ at.
      then _ ((below k is_d).condition_read a o'.0) (lead_then (lead_mark (lit< tt))) (mark _ (λ at. last _ ((below k is_d).condition_read b o'.1) (λ k s. s) (λ rest s. refl))))))

  pub not_chosen : (e : Tree) (rest : List Token) → Stops 2 (kind_of rest) → chosen n d expr_in step_in e rest ≡ Ok (e, rest)
  not_chosen e rest s = rw (no_sign sign.Question 2 (kind_of rest) (lit≤ tt) s) refl

  condition_plain : (e : Tree) → 3 ≤ level e → Within d e → Takes n (Spells e) (Stops 2) (condition n d expr_in step_in) e
  unfolding condition
  condition_plain e h o = respell (Held 3 e (Spells e)) (λ w g. (h, g)) (last _ (disjunction_complete e o) (stops_looser 2 3 (lit≤ tt)) (λ rest s. not_chosen e rest s))

  condition_form : (e : Tree) → 2 ≤ level e → Within d e → Takes n (Spells e) (Stops 2) (condition n d expr_in step_in) e
  unfolding condition
  condition_form (tree.conditional c a b) h o = then _ (disjunction_complete c o.0) (lead_then (lead_mark (lit< tt))) (chosen_complete c a b o)
  condition_form (tree.chain c e es) h o = condition_plain (tree.chain c e es) (omega (arith, class_least c)) o
  condition_form e h o = condition_plain e (omega (arith, h)) o

  pub condition_complete : IsComplete 2 d n (condition n d expr_in step_in)
  condition_complete = held condition_form

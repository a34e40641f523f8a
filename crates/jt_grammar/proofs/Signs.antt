-- Tests of a token's kind, and of an operator's class.
use Rattle.std.proofs.Common.{◌≡◌, Bool, true, false, true≢false, List, [], ◌∷◌, inl, inr, refl, sym, ap}
use denote.Enum.Bare.{sameb, same_true, true_same}
use denote.Enum.Compared.{Each, by}
use denote.Enum.Declared.{Choice, values_one}
use denote.Struct.Field.{Field}
use denote.Struct.Values.{Values}
use Rattle.jt_syntax.specs.contracts.operator.ArithmeticOperator as arithmetic_operator
use Rattle.jt_syntax.specs.contracts.operator.BinaryOperator as binary_operator
use Rattle.jt_syntax.specs.contracts.operator.BinaryOperatorPartialEq.TheImpl as operator_eq
use Rattle.jt_syntax.specs.contracts.operator.Class as classes
use Rattle.jt_syntax.specs.contracts.operator.ComparisonOperator as comparison_operator
use Rattle.jt_syntax.specs.contracts.operator.Connective as connective_operator
use Rattle.jt_syntax.specs.contracts.token.Sign as signs
use Rattle.jt_syntax.specs.declared.operator.BinaryOperator.{BinaryOperator}
use Rattle.jt_syntax.specs.declared.operator.BinaryOperator.TheVariants as binary
use Rattle.jt_syntax.specs.declared.operator.Class.{Class}
use Rattle.jt_syntax.specs.declared.token.Sign.{Sign}
use Rattle.jt_syntax.specs.declared.token.Sign.TheVariants as sign
use Rattle.jt_syntax.specs.declared.token.TokenKind.{TokenKind}
use Rattle.jt_syntax.specs.declared.token.TokenKind.TheVariants as kind
use Rattle.jt_grammar.specs.Reader.{same_sign, is, same_class}

-- ---- the test of an enum by those of the fields of its variants

abbrev FieldTest : List Field → Type 0
FieldTest Fs = Values Fs → Values Fs → Bool

-- a test for each variant that has fields
abbrev Tests : List (List Field) → Type 0
Tests [] = Unit {0}
Tests ([] ∷ Fss) = Tests Fss
Tests ((F ∷ Fs) ∷ Fss) = FieldTest (F ∷ Fs) × Tests Fss

abbrev each_of : (Fss : List (List Field)) → Tests Fss → Each Bool Fss
each_of [] t = tt
each_of ([] ∷ Fss) t = (λ x y. true, each_of Fss t)
each_of ((F ∷ Fs) ∷ Fss) t = (t.0, each_of Fss t.1)

-- the tests hold of the same fields alone
abbrev Tell : (Fss : List (List Field)) → Tests Fss → Type 0
Tell [] t = Unit {0}
Tell ([] ∷ Fss) t = Tell Fss t
Tell ((F ∷ Fs) ∷ Fss) t = ((x y : Values (F ∷ Fs)) → t.0 x y ≡ true → x ≡ y) × Tell Fss t.1

by_true : (Fss : List (List Field)) (t : Tests Fss) → Tell Fss t → (c d : Choice Fss) → by false false Fss (each_of Fss t) c d ≡ true → c ≡ d
by_true [] t h c d e = absurd c
by_true ([] ∷ Fss) t h (inl x) (inl y) e = refl
by_true ([] ∷ Fss) t h (inl x) (inr d) e = absurd (true≢false (sym e))
by_true ([] ∷ Fss) t h (inr c) (inl y) e = absurd (true≢false (sym e))
by_true ([] ∷ Fss) t h (inr c) (inr d) e = ap inr (by_true Fss t h c d e)
by_true ((F ∷ Fs) ∷ Fss) t h (inl x) (inl y) e = ap inl (h.0 x y e)
by_true ((F ∷ Fs) ∷ Fss) t h (inl x) (inr d) e = absurd (true≢false (sym e))
by_true ((F ∷ Fs) ∷ Fss) t h (inr c) (inl y) e = absurd (true≢false (sym e))
by_true ((F ∷ Fs) ∷ Fss) t h (inr c) (inr d) e = ap inr (by_true Fss t.1 h.1 c d e)

-- ---- operators

pub same_class-refl : (c : Class) → same_class c c ≡ true
unfolding same_class
same_class-refl c = true_same classes.the_type c c refl

pub same_class-true : (b c : Class) → same_class b c ≡ true → b ≡ c
unfolding same_class
same_class-true b c e = same_true classes.the_type tt b c e

abbrev same_operator : BinaryOperator → BinaryOperator → Bool
same_operator = (operator_eq.ghosts).eq

abbrev same_arithmetic : FieldTest (arithmetic_operator.the_field ∷ [])
same_arithmetic x y = sameb arithmetic_operator.the_type x.0 y.0

abbrev same_comparison : FieldTest (comparison_operator.the_field ∷ [])
same_comparison x y = sameb comparison_operator.the_type x.0 y.0

abbrev same_connective : FieldTest (connective_operator.the_field ∷ [])
same_connective x y = sameb connective_operator.the_type x.0 y.0

abbrev operator_tests : Tests binary_operator.the_parts
operator_tests = (same_arithmetic, (same_comparison, (same_connective, tt)))

same_operator-true : (o p : BinaryOperator) → same_operator o p ≡ true → o ≡ p
same_operator-true o p e =
    values_one binary_operator.enum o p (by_true binary_operator.the_parts operator_tests (arithmetic_told, (comparison_told, (connective_told, tt))) (binary_operator.as_values o) (binary_operator.as_values p) e)
  where
    arithmetic_told : (x y : Values (arithmetic_operator.the_field ∷ [])) → same_arithmetic x y ≡ true → x ≡ y
    arithmetic_told x y f = ap (λ a. (a, tt)) (same_true arithmetic_operator.the_type tt x.0 y.0 f)

    comparison_told : (x y : Values (comparison_operator.the_field ∷ [])) → same_comparison x y ≡ true → x ≡ y
    comparison_told x y f = ap (λ a. (a, tt)) (same_true comparison_operator.the_type tt x.0 y.0 f)

    connective_told : (x y : Values (connective_operator.the_field ∷ [])) → same_connective x y ≡ true → x ≡ y
    connective_told x y f = ap (λ a. (a, tt)) (same_true connective_operator.the_type tt x.0 y.0 f)

same_operator-refl : (o : BinaryOperator) → same_operator o o ≡ true
same_operator-refl (binary.Arithmetic a) = true_same arithmetic_operator.the_type a a refl
same_operator-refl (binary.Comparison a) = true_same comparison_operator.the_type a a refl
same_operator-refl (binary.Connective a) = true_same connective_operator.the_type a a refl

-- ---- signs

pub same_sign-refl : (s : Sign) → same_sign s s ≡ true
unfolding same_sign
same_sign-refl (sign.Binary o) = same_operator-refl o
same_sign-refl _ = refl

abbrev operators_alone : Tests signs.the_parts
operators_alone = (λ x y. same_operator x.0 y.0, tt)

pub same_sign-true : (r s : Sign) → same_sign r s ≡ true → r ≡ s
unfolding same_sign
same_sign-true r s e =
    values_one signs.enum r s (by_true signs.the_parts operators_alone (λ x y f. ap (λ o. (o, tt)) (same_operator-true x.0 y.0 f), tt) (signs.as_values r) (signs.as_values s) e)

pub is-true : (s : Sign) (k : TokenKind) → is s k ≡ true → k ≡ kind.Sign s
is-true s (kind.Sign r) e = ap kind.Sign (same_sign-true r s e)
is-true s (kind.Number n) e = absurd (true≢false (sym e))
is-true s (kind.Name n) e = absurd (true≢false (sym e))
is-true s (kind.Text t) e = absurd (true≢false (sym e))

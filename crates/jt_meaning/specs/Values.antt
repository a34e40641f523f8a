-- What operators and functions of the language make of values.
use Rattle.std.specs.Prelude.{ℕ, ℤ, neg_ℤ, ◌+ℤ◌, ◌-ℤ◌, ◌*ℤ◌, List, [], ◌∷◌, ◌++◌, Option, Some, None, Bool, true, false, not, ◌&&◌, ◌||◌, if◌then◌else◌, Result, Ok, Err, int_lt, int_le, nat_eq, length}
use Rattle.std.specs.Fmt.{signed_decimal}
use Rattle.std.specs.Str.Lossy.{utf8_valid_len}
use Rattle.jt_base.specs.declared.value.Value.{Value}
use Rattle.jt_base.specs.declared.value.Value.TheVariants.{Int, Flag, Nothing, Task, Object}
use Rattle.jt_base.specs.declared.operation.Fault.{Fault}
use Rattle.jt_base.specs.declared.operation.Fault.TheVariants as fault
use Rattle.jt_num.specs.declared.NumFault.{NumFault}
use Rattle.jt_num.specs.declared.NumFault.TheVariants as num_fault
use Rattle.jt_num.specs.Wrapping.{wrapped}
use Rattle.jt_num.specs.Division.{quotient, remainder, modulus}
use Rattle.jt_num.specs.Powers.{power}
use Rattle.jt_num.specs.Shifts.{left_shift, right_shift, unsigned_right_shift}
use Rattle.jt_num.specs.Bits.{bits_and, bits_or, bits_xor, complement}
use Rattle.jt_syntax.specs.declared.operator.ArithmeticOperator.{ArithmeticOperator}
use Rattle.jt_syntax.specs.declared.operator.ArithmeticOperator.TheVariants as arithmetic
use Rattle.jt_syntax.specs.declared.operator.ComparisonOperator.{ComparisonOperator}
use Rattle.jt_syntax.specs.declared.operator.ComparisonOperator.TheVariants as comparison
use Rattle.jt_syntax.specs.declared.operator.UnaryOperator.{UnaryOperator}
use Rattle.jt_syntax.specs.declared.operator.UnaryOperator.TheVariants as unary
use Rattle.jt_program.specs.declared.code.Literal.{Literal}
use Rattle.jt_program.specs.declared.code.Literal.TheVariants as literal
use Rattle.jt_program.specs.declared.code.BuiltIn.{BuiltIn}
use Rattle.jt_program.specs.declared.code.BuiltIn.TheVariants as built_in

abbrev pub value_of : Literal → Value
value_of (literal.Int n) = Int n
value_of (literal.Flag b) = Flag b
value_of literal.Nothing = Nothing

-- a value, or a fault
abbrev pub Valued : Type 0
Valued = Result Value Fault

-- ---- numbers

abbrev pub fault_of : NumFault → Fault
fault_of num_fault.Divide = fault.Divide
fault_of num_fault.Domain = fault.Domain

abbrev pub number_or : Result ℤ NumFault → Valued
number_or (Ok n) = Ok (Int n)
number_or (Err f) = Err (fault_of f)

-- of two whole numbers
abbrev pub of_numbers : (ℤ → ℤ → Valued) → Value → Value → Valued
of_numbers f (Int a) (Int b) = f a b
of_numbers f v w = Err fault.Method

-- of two whole numbers, or of two truth values
abbrev pub of_bits : (ℤ → ℤ → ℤ) → (Bool → Bool → Bool) → Value → Value → Valued
of_bits f g (Int a) (Int b) = Ok (Int (f a b))
of_bits f g (Flag a) (Flag b) = Ok (Flag (g a b))
of_bits f g v w = Err fault.Method

-- exactly one of the two
abbrev pub differ : Bool → Bool → Bool
differ a b = (a && not b) || (not a && b)

abbrev pub operated : ArithmeticOperator → Value → Value → Valued
operated arithmetic.Add v w = of_numbers (λ a b. Ok (Int (wrapped (a +ℤ b)))) v w
operated arithmetic.Subtract v w = of_numbers (λ a b. Ok (Int (wrapped (a -ℤ b)))) v w
operated arithmetic.Multiply v w = of_numbers (λ a b. Ok (Int (wrapped (a *ℤ b)))) v w
operated arithmetic.Divide v w = of_numbers (λ a b. number_or (quotient a b)) v w
operated arithmetic.Remainder v w = of_numbers (λ a b. number_or (remainder a b)) v w
operated arithmetic.Power v w = of_numbers (λ a b. number_or (power a b)) v w
operated arithmetic.And v w = of_bits bits_and (λ a b. a && b) v w
operated arithmetic.Or v w = of_bits bits_or (λ a b. a || b) v w
operated arithmetic.Xor v w = of_bits bits_xor differ v w
operated arithmetic.ShiftLeft v w = of_numbers (λ a b. Ok (Int (left_shift a b))) v w
operated arithmetic.ShiftRight v w = of_numbers (λ a b. Ok (Int (right_shift a b))) v w
operated arithmetic.ShiftRightZero v w = of_numbers (λ a b. Ok (Int (unsigned_right_shift a b))) v w

abbrev pub unary_of : UnaryOperator → Value → Valued
unary_of unary.Minus (Int a) = Ok (Int (wrapped (neg_ℤ a)))
unary_of unary.Plus (Int a) = Ok (Int a)
unary_of unary.Not (Flag b) = Ok (Flag (not b))
unary_of unary.Complement (Int a) = Ok (Int (complement a))
unary_of unary.Complement (Flag b) = Ok (Flag (not b))
unary_of o v = Err fault.Method

-- the functions of the language; a call has as many arguments as its function takes
abbrev pub applied : BuiltIn → List Value → Valued
applied built_in.Div (v ∷ w ∷ []) = of_numbers (λ a b. number_or (quotient a b)) v w
applied built_in.Rem (v ∷ w ∷ []) = of_numbers (λ a b. number_or (remainder a b)) v w
applied built_in.Mod (v ∷ w ∷ []) = of_numbers (λ a b. number_or (modulus a b)) v w
applied f vs = Err fault.Method

-- ---- comparisons

-- two whole numbers, two truth values, or `nothing` and any value, which is equal to itself alone
abbrev pub equal : Value → Value → Option Bool
equal (Int a) (Int b) = Some (int_le a b && int_le b a)
equal (Flag a) (Flag b) = Some (not (differ a b))
equal Nothing Nothing = Some true
equal Nothing v = Some false
equal v Nothing = Some false
equal v w = None

abbrev pub opposite : Option Bool → Option Bool
opposite (Some b) = Some (not b)
opposite None = None

-- two whole numbers alone are ordered
abbrev pub ordered : (ℤ → ℤ → Bool) → Value → Value → Option Bool
ordered f (Int a) (Int b) = Some (f a b)
ordered f v w = None

-- whether the comparison holds; nothing where the values can't be compared so
abbrev pub compared_by : ComparisonOperator → Value → Value → Option Bool
compared_by comparison.Equal v w = equal v w
compared_by comparison.NotEqual v w = opposite (equal v w)
compared_by comparison.Less v w = ordered (λ a b. int_lt a b) v w
compared_by comparison.LessEqual v w = ordered (λ a b. int_le a b) v w
compared_by comparison.Greater v w = ordered (λ a b. int_lt b a) v w
compared_by comparison.GreaterEqual v w = ordered (λ a b. int_le b a) v w

-- ---- texts

-- the text that `println` writes for a value; nothing where it writes none
abbrev pub shown : Value → Option (List ℕ)
shown (Int n) = Some (signed_decimal n)
shown (Flag true) = Some (116 ∷ 114 ∷ 117 ∷ 101 ∷ [])
shown (Flag false) = Some (102 ∷ 97 ∷ 108 ∷ 115 ∷ 101 ∷ [])
shown Nothing = Some (110 ∷ 111 ∷ 116 ∷ 104 ∷ 105 ∷ 110 ∷ 103 ∷ [])
shown (Task path) = None
shown (Object kind name) = None

-- whether the bytes are the UTF-8 of some characters
unfoldable pub is_utf8 : List ℕ → Bool
is_utf8 bytes = nat_eq (utf8_valid_len bytes) (length bytes)

-- the text of a string in a script, which is always UTF-8 there
abbrev pub text_of : List ℕ → Option (List ℕ)
text_of bytes = if is_utf8 bytes then Some bytes else None

-- texts in a row, if each is there
abbrev pub shown_with : Option (List ℕ) → Option (List ℕ) → Option (List ℕ)
shown_with (Some t) (Some u) = Some (t ++ u)
shown_with None u = None
shown_with (Some t) None = None

abbrev pub error_of : Option (List ℕ) → Fault
error_of (Some t) = fault.Error t
error_of None = fault.Method

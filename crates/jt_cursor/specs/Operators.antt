-- Operators among the tokens.
use Rattle.std.specs.Prelude.{if◌then◌else◌, Option, Some, None}
use Rattle.jt_syntax.specs.View.{operator_class}
use Rattle.jt_syntax.specs.declared.operator.BinaryOperator.{BinaryOperator}
use Rattle.jt_syntax.specs.declared.operator.Class.{Class}
use Rattle.jt_syntax.specs.declared.token.Sign.TheVariants as sign
use Rattle.jt_syntax.specs.declared.token.TokenKind.{TokenKind}
use Rattle.jt_syntax.specs.declared.token.TokenKind.TheVariants as kind
use Rattle.jt_grammar.specs.Reader.{is_of}

-- the operator, if it is of the class
abbrev pub operator_if : Class → BinaryOperator → Option BinaryOperator
operator_if c o = if is_of c (operator_class o) then Some o else None

-- the operator of the class that a token is, if it is one
abbrev pub operator_in : Class → TokenKind → Option BinaryOperator
operator_in c (kind.Sign (sign.Binary o)) = operator_if c o
operator_in c (kind.Sign _) = None
operator_in c (kind.Number _) = None
operator_in c (kind.Name _) = None
operator_in c (kind.Text _) = None

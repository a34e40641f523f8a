-- What a refusal says of the tokens as they were written.
use Rattle.std.specs.Prelude.{◌≡◌, List}
use Rattle.jt_syntax.specs.declared.token.Token.{Token}
use Rattle.jt_base.specs.Limits.{most_open}
use Rattle.jt_grammar.specs.Joined.{IsUnexpected, IsTooDeep}
use Rattle.jt_parser.specs.declared.error.ParseError.{ParseError}
use Rattle.jt_parser.specs.declared.error.ParseError.TheVariants as error

abbrev pub RefusesTokens : List Token → ParseError → Type 0
RefusesTokens ts (error.Unexpected at) = (t : Token) × IsUnexpected most_open ts t × (at ≡ t.at)
RefusesTokens ts (error.TooDeep at) = (t : Token) × IsTooDeep most_open ts t × (at ≡ t.at)
RefusesTokens ts error.OutOfMemory = Unit {0}

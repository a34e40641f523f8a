-- What a function that reads ensures: the reader's outcome, unless memory is wanting.
use Rattle.std.specs.Prelude.{◌≡◌, List, Result, Ok, Err}
use Rattle.jt_syntax.specs.declared.token.Token.{Token}
use Rattle.jt_grammar.specs.Reader.{Outcome, Parser, ◌>>=◌, pure, skip, unexpected, deep, spent}
use Rattle.jt_cursor.specs.declared.failure.Failure.{Failure}
use Rattle.jt_cursor.specs.declared.failure.Failure.TheVariants as failure

abbrev pub same : {A : Type 0} → A → A
same a = a

abbrev pub Fails : {A : Type 0} → Failure → Outcome A → Type 0
Fails failure.OutOfMemory o = Unit {0}
Fails (failure.Unexpected at) o = o ≡ Err (unexpected at)
Fails (failure.TooDeep at) o = o ≡ Err (deep at)
Fails failure.Spent o = o ≡ Err spent

-- the outcome that was read, as `view` sees it, and the tokens that are left
abbrev pub Parses : {A B : Type 0} → (B → A) → Outcome A → Result B Failure → List Token → Type 0
Parses view o (Ok b) new = o ≡ Ok (view b, new)
Parses view o (Err e) new = Fails e o

-- one token, whatever it is, in place of which this stands
abbrev pub one : {A : Type 0} → A → Parser A
one a = skip >>= λ _. pure a

-- Tokens where they are.
use denote.Ref.{Bor}
use Rattle.jt_syntax.specs.declared.token.Token.{Token}

-- the token behind a reference
abbrev pub now : Bor Token → Token
now t = t.now

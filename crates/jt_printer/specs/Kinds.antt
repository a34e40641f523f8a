-- What a call adds to the kinds of tokens that are written.
use Rattle.std.specs.Prelude.{◌≡◌, List, ◌++◌, Result, OnOk}
use Rattle.jt_syntax.specs.declared.token.TokenKind.{TokenKind}

-- these kinds are added, where memory is not refused
abbrev pub Adds : {E : Type 0} → List TokenKind → List TokenKind → Result Unit E → List TokenKind → Type 0
Adds ks old result new = OnOk result (new ≡ old ++ ks)

use Rattle.std.proofs.Common.{◌≡◌, ◌-◌, ◌≤◌, length, drop}
use Rattle.jt_lexer.specs.Lexer.{lex, lex_from, put_before}
use Rattle.jt_lexer.proofs.TokenLaws.{Found}
use Rattle.jt_lexer.proofs.lexer.lex.Given as goal

abbrev pub invariant-loop-at : goal.invariant-loop-at
invariant-loop-at l = (lex l.text ≡ put_before l.tokens.items (lex_from 0 l.at (drop l.at l.bytes))) × (l.at ≤ length l.bytes) × Found l.at l.bytes l.tokens.items × (l.bytes ≡ l.text)

abbrev pub decreases-loop-at : goal.decreases-loop-at
decreases-loop-at l = length l.bytes - l.at

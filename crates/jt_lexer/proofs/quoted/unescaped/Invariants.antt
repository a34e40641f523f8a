use Rattle.std.proofs.Common.{◌≡◌, drop, false, ◌++◌}
use Rattle.jt_lexer.specs.Lexer.{unescaped}
use Rattle.jt_lexer.proofs.quoted.unescaped.Given as goal

abbrev pub invariant-loop-b : goal.invariant-loop-b
invariant-loop-b l = unescaped false l.inside ≡ l.found.items ++ unescaped l.escaped (drop l.b-index l.inside)

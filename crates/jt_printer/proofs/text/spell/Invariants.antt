use Rattle.std.proofs.Common.{◌≡◌, ◌++◌, drop}
use Rattle.jt_lexer.specs.Spelled.{spelled}
use Rattle.jt_printer.proofs.text.spell.Given as goal

abbrev pub invariant-loop-kind : goal.invariant-loop-kind
invariant-loop-kind l = l.text.items ++ spelled (drop l.kind-index l.kinds) ≡ spelled l.kinds

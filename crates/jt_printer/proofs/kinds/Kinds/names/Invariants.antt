use Rattle.std.proofs.Common.{◌≡◌, ◌++◌, drop}
use Rattle.jt_grammar.specs.Printed.{more_names_kinds}
use Rattle.jt_printer.proofs.kinds.Kinds.names.Given as goal

abbrev pub invariant-loop-name : goal.invariant-loop-name
invariant-loop-name l = l.self.kinds.items ++ more_names_kinds (drop l.name-index l.rest) ≡ l.initial.self.kinds.items ++ more_names_kinds l.rest

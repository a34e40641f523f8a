-- The numbers so far, and those of the names that are left, are all of them.
use Rattle.std.proofs.Common.{◌≡◌, ◌++◌, drop, map}
use Rattle.jt_syntax.specs.declared.script.Identifier.{Identifier}
use Rattle.jt_settling.specs.Counting.{number}
use Rattle.jt_settling.proofs.counts.Counts.add_numbers.Given as goal

abbrev pub invariant-loop-name : goal.invariant-loop-name
invariant-loop-name l = l.numbers ++ map (λ (i : Identifier). number l.self i.name) (drop l.name-index l.names) ≡ l.fn.numbers ++ map (λ (i : Identifier). number l.self i.name) l.names

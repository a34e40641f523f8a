-- What is left of the names and the numbers gives what all of them give.
use Rattle.std.proofs.Common.{◌≡◌, drop}
use Rattle.jt_settling.specs.Counting.{restored}
use Rattle.jt_settling.proofs.counts.Counts.restore.Given as goal

abbrev pub invariant-loop-index : goal.invariant-loop-index
invariant-loop-index l = restored l.self (drop l.index l.names) (drop l.index l.numbers) ≡ restored l.fn.self l.fn.names l.fn.numbers

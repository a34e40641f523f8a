-- As many children were forked as turns were taken.
use Rattle.std.proofs.Common.{◌≡◌}
use Rattle.jt_rng.specs.Stream.{after_forks}
use Rattle.jt_draws.proofs.stream.skip_forks.Given as goal

abbrev pub invariant-loop-fork : goal.invariant-loop-fork
invariant-loop-fork l = l.stream ≡ after_forks l.fn.stream l._fork

-- As many words were drawn as turns were taken.
use Rattle.std.proofs.Common.{◌≡◌}
use Rattle.jt_rng.specs.Stream.{after_draws}
use Rattle.jt_draws.proofs.stream.skip_draws.Given as goal

abbrev pub invariant-loop-draw : goal.invariant-loop-draw
invariant-loop-draw l = l.stream ≡ after_draws l.fn.stream l._draw

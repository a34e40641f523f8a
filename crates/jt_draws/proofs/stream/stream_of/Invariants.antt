-- The stream is that of the child of the ancestors so far.
use Rattle.std.proofs.Common.{◌≡◌, take}
use Rattle.jt_rng.specs.Stream.{stream_at}
use Rattle.jt_draws.specs.Draws.{fork_path}
use Rattle.jt_draws.proofs.stream.stream_of.Given as goal

abbrev pub invariant-loop-ancestor : goal.invariant-loop-ancestor
invariant-loop-ancestor l = l.stream ≡ stream_at l.fn.seeds.words (fork_path (take l.ancestor-index l.ancestors))

-- The stream is behind as many draws as turns were taken, and their lines were added.
use Rattle.std.proofs.Common.{◌≡◌, ◌++◌}
use Rattle.std.specs.Prelude.{string_bytes}
use Rattle.jt_rng.specs.Stream.{stream_after}
use Rattle.jt_draws.specs.Draws.{first_draws, fork_path, number_lines}
use Rattle.jt_draws.proofs.lines.put_draws.Given as goal

abbrev pub invariant-loop-draw : goal.invariant-loop-draw
invariant-loop-draw l = record {
  stream : l.stream ≡ stream_after l.fn.seeds.words (fork_path l.ancestors) l._draw 0;
  lines : string_bytes l.out ≡ string_bytes l.initial.out ++ number_lines (first_draws l.fn.seeds.words (fork_path l.ancestors) l._draw);
}

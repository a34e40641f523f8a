-- No draw was made yet.
use Rattle.std.proofs.Common.{◌∙◌, rules}
use Rattle.jt_draws.specs.Draws.{fork_path}
use Rattle.jt_draws.proofs.Streams.{behind_none}
use Rattle.jt_draws.proofs.lines.put_draws.Goals as goal

pub loop-draw-init : goal.loop-draw-init
loop-draw-init c = record {
  stream = c.stream_of-stream.ensures ∙ behind_none c.args.seeds.words (fork_path c.args.ancestors.now);
  lines = search rules;
}

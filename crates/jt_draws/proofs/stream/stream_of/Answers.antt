-- One ancestor more.
use Rattle.std.proofs.Common.{◌∙◌, ap, sym, take}
use Rattle.std.proofs.lemmas.List.{map-append, take_more}
use Rattle.jt_rng.specs.Stream.{stream_at}
use Rattle.jt_draws.specs.Draws.{fork_path}
use Rattle.jt_draws.proofs.stream.stream_of.Goals as goal

pub loop-ancestor-preserved : goal.loop-ancestor-preserved
loop-ancestor-preserved c =
    let ancestors = c.args.ancestors.now in
    let i = c.loop-ancestor.ancestor-index in
    c.child_of-stream.ensures c.args.seeds.words (fork_path (take i ancestors)) c.loop-ancestor.invariant
    ∙ ap (stream_at c.args.seeds.words) (sym (map-append _ (take i ancestors) _) ∙ ap fork_path (sym (take_more ancestors i (record { draws = 0; forks = 0 }) c.loop-ancestor-test.true)))

-- A fork behind the draws and forks of the ancestor leads on along the path.
use Rattle.std.proofs.Common.{◌∙◌, ap}
use Rattle.jt_rng.specs.Stream.{after_draws, after_forks}
use Rattle.jt_draws.proofs.Streams.{behind_both}
use Rattle.jt_draws.proofs.stream.child_of.Goals as goal

pub returns : goal.returns
returns c seeds path begins =
    let d = c.args.ancestor.draws in
    let f = c.args.ancestor.forks in
    let drawn = c.skip_draws.ensures ∙ ap (λ s. after_draws s d) begins in
    let ready = c.skip_forks.ensures ∙ ap (λ s. after_forks s f) drawn ∙ behind_both seeds path d f in
    (c.fork.ensures.along seeds path d f ready).0

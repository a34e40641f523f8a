-- The number at the name's place is set.
use Rattle.std.proofs.Common.{◌∙◌, ◌+◌, ap, drop}
use Rattle.jt_settling.specs.Counting.{with_number, restored}
use Rattle.jt_settling.proofs.Numbers.{restored_step}
use Rattle.jt_settling.proofs.counts.Counts.restore.Goals as goal

pub loop-index-preserved : goal.loop-index-preserved
loop-index-preserved c =
    ap (λ z. restored z (drop (c.loop-index.index + 1) c.args.names.now) (drop (c.loop-index.index + 1) c.args.numbers.now)) (c.in_ok-set.ensures ∙ ap (λ n. with_number c.loop-index.self c.index-names-index.result n) c.number_at.ensures)
    ∙ (restored_step c.loop-index.self c.args.names.now c.args.numbers.now c.loop-index.index c.index-names-index.result c.index-names-index.is c.loop-index-test.true ∙ c.loop-index.invariant)

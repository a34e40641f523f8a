use Rattle.std.proofs.Common.{◌-◌, [], ◌∷◌, ◌++◌, sym, ap, ◌∙◌, arith}
use Rattle.jt_sleep_core.specs.Numbering.{workers}
use Rattle.jt_sleep_core.proofs.InOrder.{served_default, served_interactive, served_line, served_stop}
use Rattle.jt_sleep_core.proofs.Ranges.{range-alone}
use Rattle.jt_sleep_core.proofs.numbering.workers_served.Goals as goal

pub returns-then-queue-sizes : goal.returns-then-queue-sizes
returns-then-queue-sizes c =
    let z = c.args.sizes in
    range-alone _ c.push_range.new.self 0 _ z.default c.new-found.ensures c.push_range.ensures (omega arith) ∙ sym (served_default z c.args.queue c.if-queue-sizes.true)

pub returns-then-queue-heaps : goal.returns-then-queue-heaps
returns-then-queue-heaps c =
    let z = c.args.sizes in
    range-alone _ c.push_range-then-queue-heaps.new.self z.default _ z.interactive c.new-found.ensures c.push_range-then-queue-heaps.ensures (omega arith)
    ∙ sym (served_interactive z c.args.queue c.if-queue-sizes.false (omega arith))

pub returns-then-queue-last : goal.returns-then-queue-last
returns-then-queue-last c =
    let z = c.args.sizes in
    c.push.ensures ∙ (ap (λ xs. xs ++ (c.args.queue - c.heap_count-heaps.result) ∷ []) c.new-found.ensures
    ∙ (ap (λ k. (c.args.queue - k) ∷ []) c.heap_count-heaps.ensures ∙ sym (served_line z c.args.queue (omega arith) (omega arith))))

pub returns-else-queue-last : goal.returns-else-queue-last
returns-else-queue-last c =
    let z = c.args.sizes in
    range-alone _ c.push_range-else-queue-last.new.self 0 _ (workers z) c.new-found.ensures c.push_range-else-queue-last.ensures (omega arith)
    ∙ sym (served_stop z c.args.queue (omega arith))

use Rattle.std.proofs.Common.{◌*◌, [], ◌∷◌, ◌++◌, length, sym, ap, ◌∙◌, arith}
use Rattle.std.proofs.lemmas.List.FromFn.{length-range_with_len}
use Rattle.jt_sleep_core.specs.Numbering.{line_of, stop_queue}
use Rattle.jt_sleep_core.proofs.InOrder.{own_default, own_interactive}
use Rattle.jt_sleep_core.proofs.Ranges.{range-alone}
use Rattle.jt_sleep_core.proofs.numbering.pool_heaps.Goals as goal

pub returns-then-worker-sizes-clause-queues : goal.returns-then-worker-sizes-clause-queues
returns-then-worker-sizes-clause-queues c =
    let z = c.args.sizes in
    let made = range-alone _ c.push_range.new.self 0 _ (2 * z.default) c.new-heaps.ensures c.push_range.ensures (omega arith) in
    ap (λ xs. xs ++ line_of z c.args.worker ∷ stop_queue z ∷ []) made ∙ sym (own_default z c.args.worker c.if-worker-sizes.true)

pub returns-then-worker-sizes-clause-few : goal.returns-then-worker-sizes-clause-few
returns-then-worker-sizes-clause-few c =
    let z = c.args.sizes in
    let made = range-alone _ c.push_range.new.self 0 _ (2 * z.default) c.new-heaps.ensures c.push_range.ensures (omega arith) in
    let long = ap length made ∙ length-range_with_len 0 (2 * z.default) in
    let few = c.requires.sizes.default_high in
    omega arith

pub returns-else-worker-sizes-clause-queues : goal.returns-else-worker-sizes-clause-queues
returns-else-worker-sizes-clause-queues c =
    let z = c.args.sizes in
    let made = range-alone _ c.push_range-else-worker-sizes.new.self (2 * z.default) _ (2 * z.interactive) c.new-heaps.ensures c.push_range-else-worker-sizes.ensures (omega arith) in
    ap (λ xs. xs ++ line_of z c.args.worker ∷ stop_queue z ∷ []) made ∙ sym (own_interactive z c.args.worker c.if-worker-sizes.false c.requires.worker)

pub returns-else-worker-sizes-clause-few : goal.returns-else-worker-sizes-clause-few
returns-else-worker-sizes-clause-few c =
    let z = c.args.sizes in
    let made = range-alone _ c.push_range-else-worker-sizes.new.self (2 * z.default) _ (2 * z.interactive) c.new-heaps.ensures c.push_range-else-worker-sizes.ensures (omega arith) in
    let long = ap length made ∙ length-range_with_len (2 * z.default) (2 * z.interactive) in
    let few = c.requires.sizes.interactive_high in
    omega arith

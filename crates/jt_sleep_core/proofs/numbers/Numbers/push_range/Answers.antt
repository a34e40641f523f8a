use Rattle.std.proofs.Common.{◌+◌, ◌-◌, length, ap, ◌∙◌, arith, length-append}
use Rattle.std.proofs.lemmas.List.FromFn.{length-range_with_len}
use Rattle.std.specs.List.{range_with_len}
use Rattle.jt_sleep_core.proofs.Ranges.{range-pushed}
use Rattle.jt_sleep_core.proofs.numbers.Numbers.push_range.Goals as goal

pub push-requires : goal.push-requires
push-requires c =
    let old = c.args.self.now in
    let e = ap length c.loop-number.invariant.so_far ∙ (length-append old (range_with_len c.args.start (c.loop-number.number - c.args.start)) ∙ ap (λ k. length old + k) (length-range_with_len c.args.start (c.loop-number.number - c.args.start))) in
    omega arith

pub loop-number-preserved : goal.loop-number-preserved
loop-number-preserved c = record {
  inside = omega arith;
  so_far = range-pushed c.args.self.now c.loop-number.self c.push.new.self c.args.start c.loop-number.number (omega arith) c.loop-number.invariant.so_far c.push.ensures;
}

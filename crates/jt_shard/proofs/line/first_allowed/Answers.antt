-- One more job whose operation isn't allowed.
use Rattle.std.proofs.Common.{◌<◌, ◌≤◌, ◌∙◌, arith, subst, length}
use Rattle.std.specs.List.{All}
use Rattle.std.proofs.lemmas.List.{take_all}
use Rattle.std.proofs.lemmas.List.Elements.{All-more}
use Rattle.jt_base.specs.declared.operation.Op.{Op}
use Rattle.jt_shard.specs.Asking.{Refuses}
use Rattle.jt_shard.proofs.line.first_allowed.Goals as goal

pub loop-i-preserved : goal.loop-i-preserved
loop-i-preserved g c =
    let l : c.loop-i.i < length c.args.waiting.now.items = omega (arith, c.args.waiting.now.ok) in (
      omega arith,
      All-more (λ (w : g.row.J.Denot × Op). Refuses c.args.state.now (g.J.Job.told w.0).path w.1) c.args.waiting.now.items c.loop-i.i c.index.result.now l c.loop-i.invariant.1
          (subst (λ (w : g.row.J.Denot × Op). Refuses c.args.state.now (g.J.Job.told w.0).path w.1) (c.get.ensures ∙ c.index.ensures) c.if-allows.ensures),
    )

pub returns-clause-none : goal.returns-clause-none
returns-clause-none g c =
    let l : length c.args.waiting.now.items ≤ c.loop-i.i = omega (arith, c.args.waiting.now.ok) in
    subst (All (λ (w : g.row.J.Denot × Op). Refuses c.args.state.now (g.J.Job.told w.0).path w.1)) (take_all c.loop-i.i c.args.waiting.now.items l) c.loop-i.invariant.1

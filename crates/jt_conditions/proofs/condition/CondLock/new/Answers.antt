-- The parts of a condition as it is made.
use Rattle.std.proofs.Common.{sym, ap, ◌∙◌, Some, []}
use Rattle.jt_conditions.proofs.ConditionLaw.{made}
use Rattle.jt_conditions.proofs.condition.CondLock.new.Goals as goal

pub returns : goal.returns
returns c = record {
  made = λ name e q.
      made name e q
      ∙ ap (λ x. Some (record { holder = x; waiting = []; absent = _ })) (sym c.new.ensures.free)
      ∙ ap (λ x. Some (record { holder = c.new.result; waiting = x; absent = _ })) (sym c.new-2.ensures)
      ∙ ap (λ x. Some (record { holder = c.new.result; waiting = c.new-2.result.state; absent = x })) (sym c.new-3.ensures);
}

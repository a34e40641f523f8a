-- The name is one more.
use Rattle.std.proofs.Common.{◌∙◌, ap, sym, arith}
use Rattle.std.proofs.lemmas.Grind.{common_steps}
use Rattle.jt_names.proofs.Lookup.{more_firsts}
use Rattle.jt_names.proofs.names.Names.add.Goals as goal

pub invariant_of-self-in_default : goal.invariant_of-self-in_default
invariant_of-self-in_default c =
    more_firsts c.self.inside.firsts.places.entries c.add.new.self.places.entries c.self.inside.list c.push.new.self c.in_ok-copied.field-0 c.as_slice-name.result.now c.len-index.result
    c.self.invariant c.in_ok-push.ensures.ok (c.as_slice-name.ensures ∙ ap (λ z. z.name) (sym c.in_ok-copied.ensures)) c.len-index.ensures c.in_default.ensures.ok

pub returns-in-Err-clause-err : goal.returns-in-Err-clause-err
returns-in-Err-clause-err c = grind (arith, common_steps)

pub invariant_of-self-in-Err : goal.invariant_of-self-in-Err
invariant_of-self-in-Err c = grind (arith, common_steps)

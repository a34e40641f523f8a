-- The function's name is one more.
use Rattle.std.proofs.Common.{◌∙◌, ap, sym, arith}
use Rattle.std.proofs.lemmas.Grind.{common_steps}
use Rattle.std.proofs.lemmas.List.{length-map}
use Rattle.jt_names.specs.Lookup.{names_of}
use Rattle.jt_names.specs.declared.functions.Signature.{Signature}
use Rattle.jt_names.proofs.Lookup.{more_firsts, names_more}
use Rattle.jt_signatures.proofs.functions.Functions.push.Goals as goal

pub invariant_of-self-in_default : goal.invariant_of-self-in_default
invariant_of-self-in_default c =
    more_firsts c.self.inside.firsts.places.entries c.add.new.self.places.entries (names_of c.self.inside.list) (names_of c.push.new.self) c.in_ok-copied.field-0 c.as_slice.result.now c.len-index.result
    c.self.invariant (ap names_of c.in_ok-push.ensures.ok ∙ names_more c.self.inside.list (record { name = c.in_ok-copied.field-0; parameters = c.args.parameters })) (c.as_slice.ensures ∙ ap (λ z. z.name) (sym c.in_ok-copied.ensures)) (c.len-index.ensures ∙ sym (length-map c.self.inside.list (λ (f : Signature). f.name))) c.in_default.ensures.ok

pub returns-in-Err-clause-err : goal.returns-in-Err-clause-err
returns-in-Err-clause-err c = grind (arith, common_steps)

pub invariant_of-self-in-Err : goal.invariant_of-self-in-Err
invariant_of-self-in-Err c = grind (arith, common_steps)

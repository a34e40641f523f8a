-- UTF-8 is its own text, and other bytes have none.
use Rattle.std.proofs.Common.{◌∙◌, ap, sym}
use Rattle.jt_base.specs.declared.operation.Fault.TheVariants.{Error}
use Rattle.jt_meaning.specs.Values.{error_of}
use Rattle.jt_step.proofs.Utf8.{text_of-valid, text_of-broken}
use Rattle.jt_step.proofs.value.error_fault.Goals as goal

pub returns-in_ok-error-in-Ok : goal.returns-in_ok-error-in-Ok
returns-in_ok-error-in-Ok c =
    c.in_ok-error-in-Ok.ensures ∙ ap Error (c.in_ok-text-in-Ok.ensures ∙ c.in-Ok.ensures.cases.0)
    ∙ sym (ap error_of (text_of-valid c.args.bytes.now c.in-Ok.ensures.cases.1))

pub returns-in-Err : goal.returns-in-Err
returns-in-Err c =
    sym (ap error_of (text_of-broken c.args.bytes.now _ c.in-Err.ensures.valid_len c.in-Err.ensures.cases.1))

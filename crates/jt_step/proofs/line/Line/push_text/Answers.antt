-- UTF-8 is its own text, and other bytes have none.
use Rattle.std.proofs.Common.{◌≡◌, ◌∙◌, ap, sym, subst, Some, OnOk}
use Rattle.jt_meaning.specs.Values.{shown_with}
use Rattle.jt_step.proofs.Lines.{unshown}
use Rattle.jt_step.proofs.Utf8.{text_of-valid, text_of-broken}
use Rattle.jt_step.proofs.line.Line.push_text.Goals as goal

pub returns-in-Ok : goal.returns-in-Ok
returns-in-Ok c =
    let text = text_of-valid c.args.bytes.now c.in-Ok.ensures.cases.1 in
    subst (λ t. OnOk c.push_str.result (c.push_str.new.self ≡ shown_with c.args.self.now t))
    (ap Some c.in-Ok.ensures.cases.0 ∙ sym text)
    c.push_str.ensures

pub returns-in-Err : goal.returns-in-Err
returns-in-Err c =
    unshown c.args.self.now
    ∙ sym (ap (shown_with c.args.self.now) (text_of-broken c.args.bytes.now _ c.in-Err.ensures.valid_len c.in-Err.ensures.cases.1))

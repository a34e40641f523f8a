use Rattle.std.proofs.Common.{ℕ, List, IfOk, sym, subst, ◌∙◌}
use Rattle.jt_base.specs.Limits.{most_open}
use Rattle.jt_syntax.specs.View.{script_view}
use Rattle.jt_printer.specs.Again.{ReadsAs, ReadsExactly}
use Rattle.jt_printer.proofs.Whole.{refusal_told}
use Rattle.jt_printer.proofs.reading.reread.Goals as goal

pub returns-clause-again : goal.returns-clause-again
returns-clause-again c = λ r.
    let P : List ℕ → Type 0 = λ z. ReadsAs most_open (script_view c.args.script.now) z in
    c.read_bytes.ensures.again (script_view c.args.script.now) (subst P (sym c.as_slice.ensures.value) (c.in-Ok.ensures.again most_open r))

pub returns-clause-found : goal.returns-clause-found
returns-clause-found c =
    let P : List ℕ → Type 0 = λ z. IfOk c.read_bytes.result (λ found. ReadsExactly most_open z (script_view found)) in
    subst P (c.as_slice.ensures.value ∙ c.in-Ok.ensures.text) c.read_bytes.ensures.found

pub returns-clause-refused : goal.returns-clause-refused
returns-clause-refused c = refusal_told (script_view c.args.script.now) c.read_bytes.result (returns-clause-again c) c.read_bytes.ensures.short

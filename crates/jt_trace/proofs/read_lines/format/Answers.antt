use Rattle.std.proofs.Common.{◌≡◌, None, sym, ap, ◌∙◌}
use Rattle.std.specs.Prelude.{option_map, option_and_then, Option, codes}
use Rattle.jt_trace_text.specs.Lines.{Bytes}
use Rattle.jt_trace_text.specs.Readers.{literal}
use Rattle.jt_trace_text.specs.TextReaders.{ended_at, format_at}
use Rattle.jt_trace.proofs.Cuts.{literal_none}
use Rattle.jt_trace.proofs.read_lines.format.Goals as goal

pub returns-in_err-strip_prefix : goal.returns-in_err-strip_prefix
unfolding format_at
returns-in_err-strip_prefix c =
    let none : literal (codes "julia-tasks trace ") c.args.text.now ≡ None = literal_none (codes "julia-tasks trace ") c.args.text.now c.in_err-strip_prefix.ensures.cases in
    ap (option_map (λ x. (x.0, x.1.now))) c.from_residual.ensures ∙ sym (ap (λ (o : Option Bytes). option_and_then (ended_at 10 1 1) o) none)

-- What is written is the text of a trace that has one.
use Rattle.std.proofs.Common.{◌≡◌, ◌<◌, ◌^◌, ℕ, List, length, sym, subst, ◌∙◌, arith}
use Rattle.jt_trace.specs.Views.{view}
use Rattle.jt_trace_text.specs.Texts.{HasText, IsTraceText}
use Rattle.jt_trace_text.specs.Written.{trace_text}
use Rattle.jt_trace_text.proofs.Written.{written}
use Rattle.jt_trace.proofs.writing.write_trace.Goals as goal

pub returns-clause-text : goal.returns-clause-text
returns-clause-text c =
    let t = view c.args.trace.now in
    let small : length c.args.trace.now.entries.items < 2 ^ 64 = omega (arith, c.args.trace.now.entries.ok.0) in
    let is : c.from_string.result ≡ trace_text t = c.from_string.ensures ∙ c.in_ok-text.ensures in
    λ (has : HasText t). subst (λ (z : List ℕ). IsTraceText t z) (sym is) (written t small has)

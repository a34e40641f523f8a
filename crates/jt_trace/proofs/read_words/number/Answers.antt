use Rattle.std.proofs.Common.{◌≡◌, ◌<◌, ◌^◌, rules, arith, sym, ap, ◌∙◌}
use Rattle.std.specs.Prelude.{decimal}
use Rattle.std.specs.Str.{bytes_eq}
use Rattle.jt_trace.proofs.Cuts.{number_found, number_none}
use Rattle.jt_trace_text.proofs.Pieces.{bytes_eq-true}
use Rattle.jt_trace_text.proofs.Numbers.{bytes_eq-refl}
use Rattle.jt_trace.proofs.read_words.number.Goals as goal
use Rattle.jt_trace.proofs.read_words.number.Goals.{else-low-n-via-then-low-n+then-n-high+else-eq, else-low-n-via-then-low-n+else-n-high, else-low-n-via-else-low-n}

pub returns-then-eq-clause-value : goal.returns-then-eq-clause-value
returns-then-eq-clause-value c =
    let small : c.in-Ok.n < 2 ^ 64 = omega (arith, c.in-Ok.ensures.value.0) in
    let text : c.format.result.now ≡ c.args.word.now = bytes_eq-true c.format.result.now c.args.word.now (sym c.eq.ensures ∙ c.if-eq.true) in
    number_found c.args.low c.args.high c.in-Ok.n c.args.word.now small c.if-low-n.true c.if-n-high.true (sym text ∙ c.format.ensures.text)

pub returns-else-low-n-clause-value : goal.returns-else-low-n-clause-value
returns-else-low-n-clause-value c =
    number_none c.args.low c.args.high c.args.word.now c.parse.result c.parse.ensures.value.0 (λ n e w l h.
    let same : c.in-Ok.n ≡ n = cc in
    elim c.else-low-n.branch [
      | else-low-n-via-then-low-n+then-n-high+else-eq v ↦
          let text : bytes_eq v.format.result.now c.args.word.now ≡ bytes_eq c.args.word.now c.args.word.now = ap (λ x. bytes_eq x c.args.word.now) (v.format.ensures.text ∙ ap decimal same ∙ sym w) in
          absurd (let q = sym v.if-eq.false ∙ v.eq.ensures ∙ text ∙ bytes_eq-refl c.args.word.now in cc)
      | else-low-n-via-then-low-n+else-n-high v ↦ let f = v.if-n-high.false in absurd (omega (arith, f, same))
      | else-low-n-via-else-low-n v ↦ let f = v.if-low-n.false in absurd (omega (arith, f, same))
    ])

pub returns-in-Err-clause-value : goal.returns-in-Err-clause-value
returns-in-Err-clause-value c = number_none c.args.low c.args.high c.args.word.now c.parse.result c.parse.ensures.value.0 (λ n e w l h. search rules)

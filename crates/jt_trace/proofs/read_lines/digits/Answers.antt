use Rattle.std.proofs.Common.{◌≡◌, ◌<◌, true, false, length, sym, ap, ◌∙◌, arith}
use Rattle.std.specs.Prelude.{◌==◌, slice_index}
use Rattle.std.specs.Str.{all_ascii_digits}
use Rattle.std.proofs.lemmas.Bool.{eq-eqb, ne_eqb, false≢true}
use Rattle.jt_trace.proofs.Counts.{short_digits, long_digits, no_digits}
use Rattle.jt_trace.proofs.read_lines.digits.Goals as goal
use Rattle.jt_trace.proofs.read_lines.digits.Goals.{else-bytes-gt1-via-then-bytes-gt1+then-bytes-ne48+else-are_digits, else-bytes-gt1-via-then-bytes-gt1+else-bytes-ne48, else-bytes-gt1-via-else-bytes-gt1}

pub returns-in-Some : goal.returns-in-Some
returns-in-Some c = short_digits c.args.word.now c.in-Some.n (sym c.in-Some.ensures.value)

pub returns-then-are_digits : goal.returns-then-are_digits
returns-then-are_digits c =
    let w = c.args.word.now in
    let same : c.as_bytes-bytes.result.now ≡ w = c.as_bytes-bytes.ensures.value in
    let size = c.as_bytes-bytes.ensures.len in
    let long : 1 < length w = omega (arith, size) in
    let first : (slice_index w 0 == 48) ≡ false = ne_eqb (slice_index w 0) 48 (λ e. c.if-bytes-ne48.true (ap (λ x. slice_index x 0) same ∙ e)) in
    let all : all_ascii_digits w ≡ true = sym (ap all_ascii_digits same) ∙ sym c.are_digits.ensures ∙ c.if-are_digits.true in
    long_digits w (sym c.in_default.ensures.value) long first all

pub returns-else-bytes-gt1 : goal.returns-else-bytes-gt1
returns-else-bytes-gt1 c =
    let w = c.args.word.now in
    let same : c.as_bytes-bytes.result.now ≡ w = c.as_bytes-bytes.ensures.value in
    let size = c.as_bytes-bytes.ensures.len in
    no_digits w (sym c.in_default.ensures.value) (λ long first all.
    elim c.else-bytes-gt1.branch [
      | else-bytes-gt1-via-then-bytes-gt1+then-bytes-ne48+else-are_digits v ↦
          false≢true (sym v.if-are_digits.false ∙ v.are_digits.ensures ∙ ap all_ascii_digits same ∙ all)
      | else-bytes-gt1-via-then-bytes-gt1+else-bytes-ne48 v ↦
          false≢true (sym first ∙ eq-eqb (slice_index w 0) 48 (sym (ap (λ x. slice_index x 0) same) ∙ v.if-bytes-ne48.false))
      | else-bytes-gt1-via-else-bytes-gt1 v ↦ let f = v.if-bytes-gt1.false in omega (arith, f, long, size)
    ])

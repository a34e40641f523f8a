use Rattle.std.proofs.Common.{◌≡◌, ℕ, ◌<◌, ◌+◌, List, length, Some, sym, ap, ◌∙◌, arith, take, drop}
use Rattle.std.specs.Prelude.{slice_index, ◌-◌}
use Rattle.std.proofs.lemmas.Str.{IsCharBoundary-after_ascii}
use Rattle.jt_trace.proofs.Scripts.{script_found}
use Rattle.jt_trace.proofs.read_lines.script.Goals as goal

sub-zero : (n : ℕ) → n - 0 ≡ n
sub-zero n = omega arith

pub range_from-requires : goal.range_from-requires
range_from-requires c =
    let z = c.args.text.now in
    let same : c.as_bytes-bytes.result.now ≡ z = c.as_bytes-bytes.ensures.value in
    let long : c.args.size < length z = omega (arith, ap length same) in
    let at : slice_index z c.args.size ≡ 10 = sym (ap (λ x. slice_index x c.args.size) same) ∙ c.if-bytes-size-eq10.true in
    λ some. IsCharBoundary-after_ascii z c.args.size c.utf8.text long (omega (arith, at))

pub returns-then-bytes-size-eq10 : goal.returns-then-bytes-size-eq10
returns-then-bytes-size-eq10 c =
    let z = c.args.text.now in
    let n = c.args.size in
    let same : c.as_bytes-bytes.result.now ≡ z = c.as_bytes-bytes.ensures.value in
    let long : n < length z = omega (arith, ap length same) in
    let at : slice_index z n ≡ 10 = sym (ap (λ x. slice_index x n) same) ∙ c.if-bytes-size-eq10.true in
    let front : c.range.result.now ≡ take n z = c.range.ensures.value ∙ ap (λ (k : ℕ). take k z) (sub-zero n) in
    let behind : c.range_from.result.now ≡ drop (n + 1) z = c.range_from.ensures.value in
    ap (λ (s : List ℕ). Some (s, c.range_from.result.now)) front ∙ ap (λ (r : List ℕ). Some (take n z, r)) behind ∙ script_found n z c.utf8.text long at

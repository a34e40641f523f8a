use Rattle.std.proofs.Common.{◌≡◌, Bool, true, false, not, Ok, Some, sym, ap, subst, ◌∙◌, string_bytes, refl}
use Rattle.std.specs.Prelude.{IsUtf8}
use Rattle.std.specs.Str.{bytes_eq}
use Rattle.std.proofs.lemmas.Bool.{false≢true}
use Rattle.std.proofs.lemmas.Str.{IsUtf8-string_bytes}
use Rattle.hex.specs.Hex.{encode_lower, decode_of}
use Rattle.jt_trace_text.proofs.Pieces.{bytes_eq-true}
use Rattle.jt_trace.proofs.Texts.{text_found, text_malformed}
use Rattle.jt_trace.proofs.read_words.digits.Goals as goal

not_false : (b : Bool) → false ≡ not b → b ≡ true
not_false true e = refl
not_false false e = absurd (false≢true e)

pub returns-in-Ok-from_utf8 : goal.returns-in-Ok-from_utf8
returns-in-Ok-from_utf8 c =
    let b = c.in-Ok.bytes.items in
    let decoded : decode_of c.args.word.now ≡ Ok b = sym (ap decode_of c.as_bytes.ensures.value) ∙ c.in-Ok.ensures.ok in
    let same : bytes_eq c.as_str.result.now c.args.word.now ≡ true = not_false _ c.if-ne.ensures in
    let written : c.args.word.now ≡ encode_lower b = sym (bytes_eq-true c.as_str.result.now c.args.word.now same) ∙ c.as_str.ensures.value ∙ c.in_ok-again.ensures ∙ ap encode_lower c.as_slice.ensures.value in
    let string : string_bytes c.in-Ok-from_utf8.string ≡ b = ap (λ v. v.items) c.in-Ok-from_utf8.ensures.ok in
    let text : IsUtf8 b = subst IsUtf8 string (IsUtf8-string_bytes c.in-Ok-from_utf8.string) in
    text_found c.args.word.now b decoded written text ∙ ap Some (sym string ∙ sym c.from_string.ensures)

pub returns : goal.returns
returns c =
    let b = c.in-Ok.bytes.items in
    let decoded : decode_of c.args.word.now ≡ Ok b = sym (ap decode_of c.as_bytes.ensures.value) ∙ c.in-Ok.ensures.ok in
    text_malformed c.args.word.now b decoded (λ written text. false≢true (c.in-Err-from_utf8.ensures.succeeds text))

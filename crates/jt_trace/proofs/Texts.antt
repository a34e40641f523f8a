-- Whether decoded bytes are a text that is written so.
use Rattle.std.proofs.Common.{◌≡◌, Bool, true, false, ◌&&◌, Some, None, Ok, refl, ap, ◌∙◌}
use Rattle.std.specs.Prelude.{IsUtf8}
use Rattle.std.specs.Str.{bytes_eq, is_utf8}
use Rattle.std.proofs.lemmas.Bool.{and_parts}
use Rattle.std.proofs.lemmas.Str.{IsUtf8-from_is_utf8, is_utf8-from_IsUtf8}
use Rattle.hex.specs.Hex.{encode_lower, decode_of}
use Rattle.jt_trace_text.specs.Lines.{Bytes}
use Rattle.jt_trace_text.specs.WordReaders.{as_text}
use Rattle.jt_trace_text.proofs.Pieces.{bytes_eq-true}
use Rattle.jt_trace_text.proofs.Numbers.{bytes_eq-refl}

pub text_found : (w b : Bytes) → decode_of w ≡ Ok b → w ≡ encode_lower b → IsUtf8 b → as_text w (decode_of w) ≡ Some b
text_found w b dec is u =
    let same : bytes_eq w (encode_lower b) ≡ true = ap (λ (x : Bytes). bytes_eq x (encode_lower b)) is ∙ bytes_eq-refl (encode_lower b) in
    ap (as_text w) dec ∙ rw (same, is_utf8-from_IsUtf8 b u) refl

pub text_malformed : (w b : Bytes) → decode_of w ≡ Ok b → (w ≡ encode_lower b → IsUtf8 b → ⊥) → as_text w (decode_of w) ≡ None
text_malformed w b dec never = ap (as_text w) dec ∙ by (bytes_eq w (encode_lower b) && is_utf8 b) refl
  where
    by : (t : Bool) → (bytes_eq w (encode_lower b) && is_utf8 b) ≡ t → as_text w (Ok b) ≡ None
    by true e = let p = and_parts (bytes_eq w (encode_lower b)) (is_utf8 b) e in absurd (never (bytes_eq-true w (encode_lower b) p.0) (IsUtf8-from_is_utf8 b p.1))
    by false e = rw e refl

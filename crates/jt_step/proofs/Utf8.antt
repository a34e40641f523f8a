-- Whether bytes are UTF-8, and the text that they are.
use Rattle.std.proofs.Common.{◌≡◌, ℕ, List, Bool, true, false, Some, None, length, nat_eq, refl, arith}
use Rattle.std.proofs.lemmas.Bool.{eq-eqb, eqb-true}
use Rattle.std.proofs.lemmas.Str.{utf8_valid_len-IsUtf8}
use Rattle.std.specs.Prelude.{IsUtf8}
use Rattle.std.specs.Str.{IsValidUpTo}
use Rattle.std.specs.Str.Lossy.{utf8_valid_len}
use Rattle.jt_meaning.specs.Values.{is_utf8, text_of}

pub is_utf8-valid : (bytes : List ℕ) → IsUtf8 bytes → is_utf8 bytes ≡ true
unfolding is_utf8
is_utf8-valid bytes valid = eq-eqb (utf8_valid_len bytes) (length bytes) (utf8_valid_len-IsUtf8 bytes valid)

decided : (b : Bool) → (b ≡ true → ⊥) → b ≡ false
decided true refuted = absurd (refuted refl)
decided false refuted = refl

pub is_utf8-broken : (bytes : List ℕ) (n : ℕ) → n ≡ utf8_valid_len bytes → IsValidUpTo bytes n → is_utf8 bytes ≡ false
unfolding is_utf8
is_utf8-broken bytes n is valid = decided (nat_eq (utf8_valid_len bytes) (length bytes)) (λ e. omega (arith, is, valid.short, eqb-true (utf8_valid_len bytes) (length bytes) e))

pub text_of-valid : (bytes : List ℕ) → IsUtf8 bytes → text_of bytes ≡ Some bytes
text_of-valid bytes valid = rw (is_utf8-valid bytes valid)

pub text_of-broken : (bytes : List ℕ) (n : ℕ) → n ≡ utf8_valid_len bytes → IsValidUpTo bytes n → text_of bytes ≡ None
text_of-broken bytes n is valid = rw (is_utf8-broken bytes n is valid)

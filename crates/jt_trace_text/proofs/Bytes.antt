-- The bytes of a text in UTF-8 are below 256.
use Rattle.std.proofs.Common.{◌≡◌, ℕ, zero, suc, ◌+◌, ◌/◌, ◌%◌, ◌<◌, inl, inr, Bool, true, false, cond, List, [], ◌∷◌, ◌++◌, refl, subst, arith}
use Rattle.std.specs.Prelude.{nat_lt, slice_index, IsUtf8}
use Rattle.std.proofs.lemmas.Bool.{and_parts, ltb-true}
use lib.Utf8.{scalar, scalars, encode, encodes, scalar_cases}

abbrev Small : List ℕ → Type 0
Small xs = (i : ℕ) → slice_index xs i < 256

small_nil : Small []
small_nil i = omega arith

small_cons : (b : ℕ) (xs : List ℕ) → b < 256 → Small xs → Small (b ∷ xs)
small_cons b xs h s zero = h
small_cons b xs h s (suc i) = s i

small_append : (xs ys : List ℕ) → Small xs → Small ys → Small (xs ++ ys)
small_append [] ys s t = t
small_append (x ∷ xs) ys s t = small_cons x (xs ++ ys) (s 0) (small_append xs ys (λ i. s (suc i)) t)

either : (b : Bool) (xs ys : List ℕ) → (b ≡ true → Small xs) → (b ≡ false → Small ys) → Small (cond b xs ys)
either true xs ys s t = s refl
either false xs ys s t = t refl

below : (c : ℕ) → scalar c ≡ true → c < 1114112
below c e = elim (scalar_cases c e) [
  | inl low ↦ let l : c < 55296 = low in omega arith
  | inr high ↦ high.1
]

small_encode : (c : ℕ) → c < 1114112 → Small (encode c)
unfolding encode
small_encode c l =
    let last : List ℕ = (128 + c % 64) ∷ [] in
    let two : List ℕ = (128 + c / 64 % 64) ∷ (128 + c % 64) ∷ [] in
    let three : List ℕ = (128 + c / 4096 % 64) ∷ (128 + c / 64 % 64) ∷ (128 + c % 64) ∷ [] in
    let small_last : Small last = small_cons (128 + c % 64) [] (omega arith) small_nil in
    let small_two : Small two = small_cons (128 + c / 64 % 64) last (omega arith) small_last in
    let small_three : Small three = small_cons (128 + c / 4096 % 64) two (omega arith) small_two in
    either (nat_lt c 128) _ _ (λ e. let h = ltb-true c 128 e in small_cons c [] (omega (arith, h)) small_nil)
    (λ e. either (nat_lt c 2048) _ _ (λ e. let h = ltb-true c 2048 e in small_cons (192 + c / 64) last (omega (arith, h)) small_last)
    (λ e. either (nat_lt c 65536) _ _ (λ e. let h = ltb-true c 65536 e in small_cons (224 + c / 4096) two (omega (arith, h)) small_two)
    (λ e. small_cons (240 + c / 262144) three (omega (arith, l)) small_three)))

small_encodes : (cs : List ℕ) → scalars cs ≡ true → Small (encodes cs)
small_encodes [] e = small_nil
small_encodes (c ∷ cs) e =
    let p = and_parts (scalar c) (scalars cs) e in
    small_append (encode c) (encodes cs) (small_encode c (below c p.0)) (small_encodes cs p.1)

pub text_bytes : (t : List ℕ) → IsUtf8 t → (i : ℕ) → slice_index t i < 256
text_bytes t u = subst Small u.1.1 (small_encodes u.0 u.1.0)

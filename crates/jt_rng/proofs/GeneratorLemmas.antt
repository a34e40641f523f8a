-- The four words of rand_xoshiro's generator, their bytes, and its step.
use Rattle.std.proofs.Common.{◌≡◌, ℕ, zero, suc, ◌+◌, ◌-◌, ◌*◌, ◌/◌, ◌%◌, ◌^◌, ◌<◌, List, [], ◌∷◌, ◌++◌, length, refl, ap, sym, subst, ◌∙◌, arith, Bool, true, false, eqb}
use Rattle.std.specs.Prelude.{slice_index, bit_xor, ◌==◌, ◌&&◌}
use Rattle.std.specs.Int.{w64, rotate_left}
use Rattle.std.proofs.lemmas.Nat.{from_le_bytes-to_le_bytes_8, xor_lt, or_lt, shr_le}
use Rattle.std.proofs.lemmas.Bool.{cond-true, cond-false, cond_both}
use lib.Pointwise.{pointwise}
use Rattle.rand_core.specs.Steps.{u32_at, u64_at}
use Rattle.rand_xoshiro.specs.Xoshiro256.{state_bytes, plus_plus, of_seed}
use Rattle.jt_rng.specs.Generator.{IsGenerator}
use Rattle.jt_rng.specs.Words.{output_of, next_state, nonzero, started, forked, after_fork, child_words, next_fork_word}

-- what holds of four words holds of a list of length 4
pub by_four : (P : List ℕ → Type 0) → ((a b c d : ℕ) → P (a ∷ b ∷ c ∷ d ∷ [])) → (g : List ℕ) → length g ≡ 4 → P g
by_four P f [] e = absurd (omega arith)
by_four P f (a ∷ []) e = absurd (omega arith)
by_four P f (a ∷ b ∷ []) e = absurd (omega arith)
by_four P f (a ∷ b ∷ c ∷ []) e = absurd (omega arith)
by_four P f (a ∷ b ∷ c ∷ d ∷ []) e = f a b c d
by_four P f (a ∷ b ∷ c ∷ d ∷ x ∷ g) e = absurd (omega arith)

pub IsGenerator-words : (a b c d : ℕ) → a < 2 ^ 64 → b < 2 ^ 64 → c < 2 ^ 64 → d < 2 ^ 64 → IsGenerator (a ∷ b ∷ c ∷ d ∷ [])
IsGenerator-words a b c d p q r s = record { four = refl; words = at }
  where
    at : (i : ℕ) → slice_index (a ∷ b ∷ c ∷ d ∷ []) i < 2 ^ 64
    at zero = p
    at (suc zero) = q
    at (suc (suc zero)) = r
    at (suc (suc (suc zero))) = s
    at (suc (suc (suc (suc i)))) = omega arith

rotate_left_below : (n k : ℕ) → n < 2 ^ 64 → rotate_left w64 n k < 2 ^ 64
rotate_left_below n k h =
    let low : n * 2 ^ (k % 64) % 2 ^ 64 < 2 ^ 64 = omega arith in
    let high : n / 2 ^ ((64 - k % 64) % 64) < 2 ^ 64 = omega (arith, shr_le n ((64 - k % 64) % 64)) in
    or_lt 64 _ _ low high

-- ---- bytes

bytes_sum : (x : ℕ) → x < 2 ^ 64 → x % 256 + x / 256 % 256 * 2 ^ 8 + x / 65536 % 256 * 2 ^ 16 + x / 16777216 % 256 * 2 ^ 24 + (x / 4294967296 % 256 + x / 1099511627776 % 256 * 2 ^ 8 + x / 281474976710656 % 256 * 2 ^ 16 + x / 72057594037927936 % 256 * 2 ^ 24) * 2 ^ 32 ≡ x
bytes_sum x h = omega (arith, from_le_bytes-to_le_bytes_8 x h)

-- the words of the generator, read back from its bytes
pub word0_from_bytes : (s : List ℕ) → IsGenerator s → u64_at (state_bytes s) 0 ≡ slice_index s 0
unfolding u32_at
word0_from_bytes s v = bytes_sum (slice_index s 0) (v.words 0)

pub word1_from_bytes : (s : List ℕ) → IsGenerator s → u64_at (state_bytes s) 1 ≡ slice_index s 1
unfolding u32_at
word1_from_bytes s v = bytes_sum (slice_index s 1) (v.words 1)

pub word2_from_bytes : (s : List ℕ) → IsGenerator s → u64_at (state_bytes s) 2 ≡ slice_index s 2
unfolding u32_at
word2_from_bytes s v = bytes_sum (slice_index s 2) (v.words 2)

pub word3_from_bytes : (s : List ℕ) → IsGenerator s → u64_at (state_bytes s) 3 ≡ slice_index s 3
unfolding u32_at
word3_from_bytes s v = bytes_sum (slice_index s 3) (v.words 3)

-- four words and a fifth, as the code lists them
pub same_five : (s bytes : List ℕ) (x : ℕ) → IsGenerator s → bytes ≡ state_bytes s → u64_at bytes 0 ∷ u64_at bytes 1 ∷ u64_at bytes 2 ∷ u64_at bytes 3 ∷ x ∷ [] ≡ s ++ x ∷ []
same_five s bytes x v e =
    let at0 : u64_at bytes 0 ≡ slice_index s 0 = ap (λ b. u64_at b 0) e ∙ word0_from_bytes s v in
    let at1 : u64_at bytes 1 ≡ slice_index s 1 = ap (λ b. u64_at b 1) e ∙ word1_from_bytes s v in
    let at2 : u64_at bytes 2 ≡ slice_index s 2 = ap (λ b. u64_at b 2) e ∙ word2_from_bytes s v in
    let at3 : u64_at bytes 3 ≡ slice_index s 3 = ap (λ b. u64_at b 3) e ∙ word3_from_bytes s v in
    rw (at0, at1, at2, at3)
    (by_four (λ g. slice_index g 0 ∷ slice_index g 1 ∷ slice_index g 2 ∷ slice_index g 3 ∷ x ∷ [] ≡ g ++ x ∷ []) (λ a b c d. refl) s v.four)

-- ---- the words that a generator may begin with

zeros : List ℕ
zeros = 0 ∷ 0 ∷ 0 ∷ 0 ∷ []

-- one test written in two ways
same_test : (p q r s : Bool) → p && (q && (r && (s && true))) ≡ p && q && r && s
same_test false q r s = refl
same_test true false r s = refl
same_test true true false s = refl
same_test true true true false = refl
same_test true true true true = refl

abbrev pub is_zero : List ℕ → Bool
is_zero s = (slice_index s 0 == 0) && (slice_index s 1 == 0) && (slice_index s 2 == 0) && (slice_index s 3 == 0)

is_zero-pointwise : (s : List ℕ) → length s ≡ 4 → pointwise eqb s (0 ∷ 0 ∷ 0 ∷ 0 ∷ []) ≡ is_zero s
is_zero-pointwise s e = by_four (λ g. pointwise eqb g (0 ∷ 0 ∷ 0 ∷ 0 ∷ []) ≡ is_zero g) (λ a b c d. same_test (a == 0) (b == 0) (c == 0) (d == 0)) s e

same_words : (s : List ℕ) → length s ≡ 4 → slice_index s 0 ∷ slice_index s 1 ∷ slice_index s 2 ∷ slice_index s 3 ∷ [] ≡ s
same_words s e = by_four (λ g. slice_index g 0 ∷ slice_index g 1 ∷ slice_index g 2 ∷ slice_index g 3 ∷ [] ≡ g) (λ a b c d. refl) s e

pub nonzero-zeros : (s : List ℕ) → length s ≡ 4 → pointwise eqb s (0 ∷ 0 ∷ 0 ∷ 0 ∷ []) ≡ true → 1 ∷ 0 ∷ 0 ∷ 0 ∷ [] ≡ nonzero s
unfolding nonzero
nonzero-zeros s e t = sym (cond-true (is_zero s) _ _ (sym (is_zero-pointwise s e) ∙ t))

pub nonzero-other : (s : List ℕ) → length s ≡ 4 → pointwise eqb s (0 ∷ 0 ∷ 0 ∷ 0 ∷ []) ≡ false → s ≡ nonzero s
unfolding nonzero
nonzero-other s e t = sym (cond-false (is_zero s) _ _ (sym (is_zero-pointwise s e) ∙ t) ∙ same_words s e)

-- and so the generator keeps them
is_zero-nonzero : (s : List ℕ) → is_zero (nonzero s) ≡ false
unfolding nonzero
is_zero-nonzero s =
    cond_both (is_zero s) (1 ∷ 0 ∷ 0 ∷ 0 ∷ []) (slice_index s 0 ∷ slice_index s 1 ∷ slice_index s 2 ∷ slice_index s 3 ∷ [])
    (λ g. is_zero g ≡ false) (λ _. refl) (λ e. e)

of_seed-words : (bytes g : List ℕ) → u64_at bytes 0 ≡ slice_index g 0 → u64_at bytes 1 ≡ slice_index g 1 → u64_at bytes 2 ≡ slice_index g 2 → u64_at bytes 3 ≡ slice_index g 3 → is_zero g ≡ false → length g ≡ 4 → of_seed bytes ≡ g
of_seed-words bytes g p q r s e f = rw (p, q, r, s) (cond-false (is_zero g) _ _ e ∙ same_words g f)

pub of_seed-nonzero : (s bytes g : List ℕ) → g ≡ nonzero s → bytes ≡ state_bytes g → IsGenerator g → of_seed bytes ≡ nonzero s
of_seed-nonzero s bytes g e f v =
    of_seed-words bytes g
    (ap (λ b. u64_at b 0) f ∙ word0_from_bytes g v)
    (ap (λ b. u64_at b 1) f ∙ word1_from_bytes g v)
    (ap (λ b. u64_at b 2) f ∙ word2_from_bytes g v)
    (ap (λ b. u64_at b 3) f ∙ word3_from_bytes g v)
    (ap is_zero e ∙ is_zero-nonzero s) v.four
    ∙ e

-- ---- a draw

-- the next words are words again
pub IsGenerator-step : (s next : List ℕ) (word : ℕ) → IsGenerator s → (word, next) ≡ plus_plus s → IsGenerator next
IsGenerator-step s next word v e =
    let a = bit_xor (slice_index s 2) (slice_index s 0) in
    let b = bit_xor (slice_index s 3) (slice_index s 1) in
    let below_a : bit_xor (slice_index s 2) (slice_index s 0) < 2 ^ 64 = xor_lt 64 _ _ (v.words 2) (v.words 0) in
    let below_b : bit_xor (slice_index s 3) (slice_index s 1) < 2 ^ 64 = xor_lt 64 _ _ (v.words 3) (v.words 1) in
    let shifted : slice_index s 1 * 2 ^ 17 % 2 ^ 64 < 2 ^ 64 = omega arith in
    subst IsGenerator (sym (ap (λ p. p.1) e))
    (IsGenerator-words _ _ _ _
    (xor_lt 64 _ _ (v.words 0) below_b)
    (xor_lt 64 _ _ (v.words 1) below_a)
    (xor_lt 64 _ _ below_a shifted)
    (rotate_left_below _ 45 below_b))

-- the kit's step is the one of the definitions
pub output_of-step : (s next now : List ℕ) (word x : ℕ) → length s ≡ 4 → s ++ x ∷ [] ≡ now → (word, next) ≡ plus_plus s → word ≡ output_of now
unfolding output_of
output_of-step s next now word x e f step =
    ap (λ p. p.0) step
    ∙ by_four (λ g. (plus_plus g).0 ≡ output_of (g ++ x ∷ [])) (λ a b c d. refl) s e
    ∙ ap output_of f

pub next_state-step : (s next now : List ℕ) (word x : ℕ) → length s ≡ 4 → s ++ x ∷ [] ≡ now → (word, next) ≡ plus_plus s → next ++ x ∷ [] ≡ next_state now
unfolding next_state
next_state-step s next now word x e f step =
    ap (λ p. p.1 ++ x ∷ []) step
    ∙ by_four (λ g. (plus_plus g).1 ++ x ∷ [] ≡ next_state (g ++ x ∷ [])) (λ a b c d. refl) s e
    ∙ ap next_state f

-- ---- the states that a beginning and a fork make

pub started-words : (s g : List ℕ) → g ≡ nonzero (slice_index s 0 ∷ slice_index s 1 ∷ slice_index s 2 ∷ slice_index s 3 ∷ []) → g ++ slice_index s 4 ∷ [] ≡ started s
unfolding started nonzero
started-words s g e = ap (λ h. h ++ slice_index s 4 ∷ []) e

fork_word-in : (s : List ℕ) (x : ℕ) → length s ≡ 4 → slice_index (s ++ x ∷ []) 4 ≡ x
fork_word-in s x e = by_four (λ g. slice_index (g ++ x ∷ []) 4 ≡ x) (λ a b c d. refl) s e

pub forked-words : (s now g : List ℕ) (x y : ℕ) → length s ≡ 4 → s ++ x ∷ [] ≡ now → g ≡ nonzero (child_words now) → y ≡ next_fork_word x → g ++ y ∷ [] ≡ forked now
unfolding forked
forked-words s now g x y four view e f =
    let word : x ≡ slice_index now 4 = sym (fork_word-in s x four) ∙ ap (λ l. slice_index l 4) view in
    ap (λ h. h ++ y ∷ []) e ∙ ap (λ w. nonzero (child_words now) ++ w ∷ []) (f ∙ ap next_fork_word word)

pub after_fork-words : (s now : List ℕ) (x y : ℕ) → length s ≡ 4 → s ++ x ∷ [] ≡ now → y ≡ next_fork_word x → s ++ y ∷ [] ≡ after_fork now
unfolding after_fork
after_fork-words s now x y four view f =
    ap (λ w. s ++ w ∷ []) f
    ∙ by_four (λ g. g ++ next_fork_word x ∷ [] ≡ after_fork (g ++ x ∷ [])) (λ a b c d. refl) s four
    ∙ ap after_fork view

-- The lengths of lines, words and numbers are runs of their places.
use Rattle.std.proofs.Common.{◌≡◌, ℕ, zero, suc, ◌+◌, ◌-◌, ◌*◌, ◌^◌, ◌<◌, ◌≤◌, Bool, true, false, not, ◌&&◌, ◌||◌, ◌⊎◌, inl, inr, cond, nat_lt, [], ◌∷◌, length, take, Ok, Err, refl, sym, ap, subst, ◌∙◌, arith}
use Rattle.std.specs.Prelude.{slice_index, ◌==◌}
use Rattle.std.specs.Char.{is_ascii_digit}
use Rattle.std.proofs.lemmas.Bool.{false≢true, cases_order, cases_Bool, or_left, or_parts, and_from, ltb-true, ltb-false, lt-ltb, le-ltb, cond_both}
use Rattle.jt_lexer.specs.declared.piece.Shape.TheVariants as shape
use Rattle.jt_lexer.specs.declared.piece.Defect.TheVariants as defect
use Rattle.jt_lexer.specs.Pieces.{Text, Piece, line_len, with_digit, number_from, continues_word, word_len, whole_len}
use Rattle.jt_lexer.specs.Rules.{IsSpan, in_line, in_number, value, in_word, in_whole}
use Rattle.jt_lexer.proofs.Fronts.{differs}

one_length : (test : ℕ → Bool) (m n : ℕ) → IsSpan test m → IsSpan test n → (m ≡ n) ⊎ ((m < n) ⊎ (n < m)) → m ≡ n
one_length test m n h k (inl e) = e
one_length test m n h k (inr (inl l)) = absurd (false≢true (sym h.1 ∙ k.0 m l))
one_length test m n h k (inr (inr l)) = absurd (false≢true (sym k.1 ∙ h.0 n l))

pub run_unique : (test : ℕ → Bool) (m n : ℕ) → IsSpan test m → IsSpan test n → m ≡ n
run_unique test m n h k = one_length test m n h k (cases_order m n)

pub no_run : (test : ℕ → Bool) → test 0 ≡ false → IsSpan test 0
no_run test h = (λ k l. absurd (omega (arith, l)), h)

longer : (test : ℕ → Bool) (n : ℕ) → test 0 ≡ true → ((k : ℕ) → k < n → test (suc k) ≡ true) → (k : ℕ) → k < suc n → test k ≡ true
longer test n h all zero l = h
longer test n h all (suc k) l = all k (omega (arith, l))

pub more_run : (test : ℕ → Bool) (n : ℕ) → test 0 ≡ true → IsSpan (λ k. test (suc k)) n → IsSpan test (suc n)
more_run test n h r = (longer test n h r.0, r.1)

pub less_run : (test : ℕ → Bool) (n : ℕ) → IsSpan test (suc n) → IsSpan (λ k. test (suc k)) n
less_run test n r = (λ k l. r.0 (suc k) (omega (arith, l)), r.1)

-- where some place fails the test, there is a run
pub a_run : (test : ℕ → Bool) (n : ℕ) → test n ≡ false → (m : ℕ) × IsSpan test m
a_run test zero h = (0, no_run test h)
a_run test (suc n) h = elim (cases_Bool (test 0)) [
  | inl e ↦ let r = a_run (λ k. test (suc k)) n h in (suc r.0, more_run test r.0 e r.1)
  | inr e ↦ (0, no_run test e)
]

pub same_run : (p q : ℕ → Bool) (n : ℕ) → ((k : ℕ) → p k ≡ q k) → IsSpan p n → IsSpan q n
same_run p q n same r = (λ k l. sym (same k) ∙ r.0 k l, sym (same n) ∙ r.1)

-- ---- lines and words

pub line_len_run : (z : Text) → IsSpan (in_line z) (line_len z)
line_len_run [] = no_run (in_line []) refl
line_len_run (b ∷ z) = cond_both (b == 10) 0 (suc (line_len z)) (IsSpan (in_line (b ∷ z)))
    (λ e. no_run (in_line (b ∷ z)) (ap not e))
    (λ e. more_run (in_line (b ∷ z)) (line_len z) (ap not e) (line_len_run z))

pub word_len_run : (z : Text) → IsSpan (in_word z) (word_len z)
word_len_run [] = no_run (in_word []) refl
word_len_run (b ∷ z) = cond_both (continues_word b || (b == 33 && not (slice_index z 0 == 61))) (suc (word_len z)) 0 (IsSpan (in_word (b ∷ z)))
    (λ e. more_run (in_word (b ∷ z)) (word_len z) e (word_len_run z))
    (λ e. no_run (in_word (b ∷ z)) e)

no_mark : (b : ℕ) (z : Text) → (b == 64) ≡ false → (k : ℕ) → in_word (b ∷ z) k ≡ in_whole (b ∷ z) k
no_mark b z h zero = ap (λ t. t || in_word (b ∷ z) 0) (sym h)
no_mark b z h (suc k) = refl

pub whole_len_run : (z : Text) → IsSpan (in_whole z) (whole_len z)
unfolding whole_len
whole_len_run [] = no_run (in_whole []) refl
whole_len_run (b ∷ z) = cond_both (b == 64) (suc (word_len z)) (word_len (b ∷ z)) (IsSpan (in_whole (b ∷ z)))
    (λ e. more_run (in_whole (b ∷ z)) (word_len z) (or_left (b == 64) (in_word (b ∷ z) 0) e) (word_len_run z))
    (λ e. same_run (in_word (b ∷ z)) (in_whole (b ∷ z)) (word_len (b ∷ z)) (no_mark b z e) (word_len_run (b ∷ z)))

-- ---- numbers

abbrev pub numbered : ℕ → ℕ → Piece
numbered v n = cond (nat_lt v (2 ^ 63)) (Ok (shape.Number v, n)) (Err defect.NumberTooLarge)

pub value_grows : (v : ℕ) (w : Text) → v ≤ value v w
value_grows v [] = omega arith
value_grows v (b ∷ w) =
    let next = cond (b == 95) v (v * 10 + (b - 48)) in
    let more : v ≤ next = cond_both (b == 95) v (v * 10 + (b - 48)) (λ x. v ≤ x) (λ _. omega arith) (λ _. omega arith) in
    omega (arith, more, value_grows next w)

no_middle : (x y z : Bool) → y ≡ true → (x && y && z) ≡ false → (x && z) ≡ false
no_middle true true z e h = h
no_middle true false z e h = absurd (false≢true e)
no_middle false y z e h = refl

outer : (x y z : Bool) → (x && y && z) ≡ true → (x ≡ true) × (z ≡ true)
outer true true z h = (refl, h)
outer true false z h = absurd (false≢true h)
outer false y z h = absurd (false≢true h)

-- a digit comes before or behind
abbrev Near : ℕ → Text → Type 0
Near p z = (is_ascii_digit p ≡ true) ⊎ (is_ascii_digit (slice_index z 0) ≡ true)

before_end : (p b : ℕ) (z : Text) → Near p (b ∷ z) → is_ascii_digit b ≡ false → is_ascii_digit p ≡ true
before_end p b z (inl h) e = h
before_end p b z (inr h) e = absurd (false≢true (sym e ∙ h))

pub small_number : (v n : ℕ) → v < 2 ^ 63 → numbered v n ≡ Ok (shape.Number v, n)
small_number v n h = let e : nat_lt v (2 ^ 63) ≡ true = lt-ltb v (2 ^ 63) h in rw e refl

pub large_number : (v n : ℕ) → 2 ^ 63 ≤ v → numbered v n ≡ Err defect.NumberTooLarge
large_number v n h = let e : nat_lt v (2 ^ 63) ≡ false = le-ltb v (2 ^ 63) h in rw e refl

digit_value : (v b n : ℕ) (z : Text) → is_ascii_digit b ≡ true → value v (take (suc n) (b ∷ z)) ≡ value (with_digit v b) (take n z)
digit_value v b n z h = ap (λ c. value (cond c v (with_digit v b)) (take n z)) (differs is_ascii_digit b 95 h refl)

digit_step : (v b at : ℕ) (z : Text) → is_ascii_digit b ≡ true → number_from v at (b ∷ z) ≡ cond (nat_lt (with_digit v b) (2 ^ 63)) (number_from (with_digit v b) (at + 1) z) (Err defect.NumberTooLarge)
digit_step v b at z h = rw h refl

mark_step : (v b at : ℕ) (z : Text) → is_ascii_digit b ≡ false → (b == 95) ≡ true → is_ascii_digit (slice_index z 0) ≡ true → number_from v at (b ∷ z) ≡ number_from v (at + 1) z
mark_step v b at z h k l = let e : (b == 95 && is_ascii_digit (slice_index z 0)) ≡ true = and_from (b == 95) _ k l in rw (h, e) refl

end_step : (v b at : ℕ) (z : Text) → is_ascii_digit b ≡ false → (b == 95 && is_ascii_digit (slice_index z 0)) ≡ false → number_from v at (b ∷ z) ≡ Ok (shape.Number v, at)
end_step v b at z h k = rw (h, k) refl

abbrev NumberRun : ℕ → Text → Type 0
NumberRun p z = (v at n : ℕ) → v < 2 ^ 63 → IsSpan (λ k. in_number (p ∷ z) (suc k)) n → number_from v at z ≡ numbered (value v (take n z)) (at + n)

ends_here : (v at : ℕ) → v < 2 ^ 63 → Ok (shape.Number v, at) ≡ numbered v (at + 0)
ends_here v at h = let e : at ≡ at + 0 = omega arith in ap (λ k. Ok (shape.Number v, k)) e ∙ sym (small_number v (at + 0) h)

behind_digit : (v b at n : ℕ) (z : Text) → is_ascii_digit b ≡ true → NumberRun b z → IsSpan (λ k. in_number (b ∷ z) (suc k)) n → number_from v at (b ∷ z) ≡ numbered (value v (take (suc n) (b ∷ z))) (at + suc n)
behind_digit v b at n z digit rec r =
    let next = with_digit v b in
    let same = digit_value v b n z digit in
    let place : at + 1 + n ≡ at + suc n = omega arith in
    digit_step v b at z digit ∙ cond_both (nat_lt next (2 ^ 63)) (number_from next (at + 1) z) (Err defect.NumberTooLarge) (λ o. o ≡ numbered (value v (take (suc n) (b ∷ z))) (at + suc n))
    (λ e. rec next (at + 1) n (ltb-true next (2 ^ 63) e) r ∙ (ap (λ k. numbered (value next (take n z)) k) place ∙ ap (λ x. numbered x (at + suc n)) (sym same)))
    (λ e. sym (large_number (value v (take (suc n) (b ∷ z))) (at + suc n) (subst (λ x. 2 ^ 63 ≤ x) (sym same) (omega (arith, ltb-false next (2 ^ 63) e, value_grows next (take n z))))))

behind_mark : (v b at n : ℕ) (z : Text) → v < 2 ^ 63 → is_ascii_digit b ≡ false → (b == 95) ≡ true → is_ascii_digit (slice_index z 0) ≡ true → NumberRun b z → IsSpan (λ k. in_number (b ∷ z) (suc k)) n
    → number_from v at (b ∷ z) ≡ numbered (value v (take (suc n) (b ∷ z))) (at + suc n)
behind_mark v b at n z small digit mark next rec r =
    let same : value v (take (suc n) (b ∷ z)) ≡ value v (take n z) = ap (λ c. value (cond c v (with_digit v b)) (take n z)) mark in
    let place : at + 1 + n ≡ at + suc n = omega arith in
    mark_step v b at z digit mark next ∙ (rec v (at + 1) n small r ∙ (ap (λ k. numbered (value v (take n z)) k) place ∙ ap (λ x. numbered x (at + suc n)) (sym same)))

number_run : (p : ℕ) (z : Text) → Near p z → NumberRun p z
number_run p [] near v at zero small r = ends_here v at small
number_run p [] near v at (suc n) small r = absurd (false≢true (r.0 0 (omega arith)))
number_run p (b ∷ z) near v at zero small r =
    let parts = or_parts (is_ascii_digit b) (b == 95 && is_ascii_digit p && is_ascii_digit (slice_index z 0)) r.1 in
    end_step v b at z parts.0 (no_middle (b == 95) (is_ascii_digit p) (is_ascii_digit (slice_index z 0)) (before_end p b z near parts.0) parts.1) ∙ ends_here v at small
number_run p (b ∷ z) near v at (suc n) small r = elim (cases_Bool (is_ascii_digit b)) [
  | inl e ↦ behind_digit v b at n z e (number_run b z (inl e)) (less_run (λ k. in_number (p ∷ b ∷ z) (suc k)) n r)
  | inr e ↦
      let mark : (b == 95 && is_ascii_digit p && is_ascii_digit (slice_index z 0)) ≡ true = subst (λ t. (t || (b == 95 && is_ascii_digit p && is_ascii_digit (slice_index z 0))) ≡ true) e (r.0 0 (omega arith)) in
      let ends = outer (b == 95) (is_ascii_digit p) (is_ascii_digit (slice_index z 0)) mark in
      behind_mark v b at n z small e ends.0 ends.1 (number_run b z (inr ends.1)) (less_run (λ k. in_number (p ∷ b ∷ z) (suc k)) n r)
]

behind_zero : (z : Text) → is_ascii_digit (slice_index z 0) ≡ true → (k : ℕ) → in_number z k ≡ in_number (48 ∷ z) (suc k)
behind_zero z h zero = h ∙ sym (or_left (is_ascii_digit (slice_index z 0)) _ h)
behind_zero z h (suc k) = refl

pub number_is : (z : Text) (n : ℕ) → is_ascii_digit (slice_index z 0) ≡ true → IsSpan (in_number z) n → number_from 0 0 z ≡ numbered (value 0 (take n z)) n
number_is z n h r =
    let place : 0 + n ≡ n = omega arith in
    number_run 48 z (inl refl) 0 0 n (ltb-true 0 (2 ^ 63) refl) (same_run (in_number z) (λ k. in_number (48 ∷ z) (suc k)) n (behind_zero z h) r) ∙ ap (numbered (value 0 (take n z))) place

pub past_end : (z : Text) → slice_index z (length z) ≡ 0
past_end [] = refl
past_end (b ∷ z) = past_end z

no_digits : (s d : ℕ) (c : Bool) → s ≡ 0 → (is_ascii_digit s || (s == 95 && c && is_ascii_digit d)) ≡ false
no_digits s d c e = rw e refl

pub no_number : (z : Text) → in_number z (length z) ≡ false
no_number [] = refl
no_number (b ∷ z) = no_digits (slice_index z (length z)) (slice_index z (suc (length z))) (is_ascii_digit (slice_index (b ∷ z) (length z))) (past_end z)

-- Each piece is at least one byte long, and lies within the text.
use Rattle.std.proofs.Common.{◌≡◌, ℕ, zero, suc, ◌+◌, ◌≤◌, Bool, true, false, not, ◌&&◌, ◌||◌, inl, inr, nat_eq, List, [], ◌∷◌, ◌++◌, length, drop, Option, Some, None, refl, sym, ap, subst, ◌∙◌, arith, length-drop, length-append}
use Rattle.std.specs.Prelude.{slice_index, ◌==◌, codes}
use Rattle.std.specs.List.{starts_with}
use Rattle.std.proofs.lemmas.Bool.{false≢true, cases_lt, or_cases, or_left, or_right}
use Rattle.jt_syntax.specs.declared.token.TokenKind.{TokenKind}
use Rattle.jt_syntax.specs.declared.token.TokenKind.TheVariants as kind
use Rattle.jt_lexer.specs.Pieces.{Text, is_blank, continues_word, begins_word}
use Rattle.jt_lexer.specs.Rules.{IsSpan, in_line, in_whole, CommentMark, opening, closing, other, ReadsMarks, size, part_bytes, IsString, HasPrefix, BeginsAt, IsWord, IsSkipped, IsToken, IsPiece}
use Rattle.jt_lexer.proofs.Runs.{past_end, no_number}
use Rattle.jt_lexer.proofs.WordRules.{starts_as}
use Rattle.jt_lexer.proofs.SignRules.{begins_free, sign_free}

abbrev pub Within : Text → ℕ → Type 0
Within z n = (1 ≤ n) × (n ≤ length z)

run_within : (test : ℕ → Bool) (n k : ℕ) → IsSpan test n → test k ≡ false → n ≤ k
run_within test n k r e = elim (cases_lt k n) [
  | inl l ↦ absurd (false≢true (sym e ∙ r.0 k l))
  | inr l ↦ l
]

run_moves : (test : ℕ → Bool) (n : ℕ) → IsSpan test n → test 0 ≡ true → 1 ≤ n
run_moves test zero r h = absurd (false≢true (sym r.1 ∙ h))
run_moves test (suc n) r h = omega arith

front_within : (p z : Text) → starts_with nat_eq z p ≡ true → length p ≤ length z
front_within p z h = let e : length z ≡ length p + length (drop (length p) z) = ap length (starts_as p z h) ∙ length-append p (drop (length p) z) in omega (arith, e)

-- ---- blanks and comments

blank_within : (z : Text) → is_blank z ≡ true → 1 ≤ length z
blank_within [] h = absurd (false≢true h)
blank_within (b ∷ z) h = omega arith

no_line : (z : Text) → in_line z (length z) ≡ false
no_line [] = refl
no_line (b ∷ z) = no_line z

line_moves : (z : Text) → slice_index z 0 ≡ 35 → in_line z 0 ≡ true
line_moves [] h = absurd (omega (arith, h))
line_moves (b ∷ z) h = ap (λ x. not (x == 10)) h

marks_length : (ms : List CommentMark) (z rest : Text) → ReadsMarks ms z rest → length z ≡ size ms + length rest
marks_length [] z rest h = let e : length rest ≡ 0 + length rest = omega arith in ap length h ∙ e
marks_length (opening ∷ ms) z rest h = omega (arith, ap length h.1, marks_length ms h.0 rest h.2)
marks_length (closing ∷ ms) z rest h = omega (arith, ap length h.1, marks_length ms h.0 rest h.2)
marks_length (other b ∷ ms) z rest h = omega (arith, ap length h.1, marks_length ms h.0 rest h.4)

skipped_within : (z : Text) (n : ℕ) → IsSkipped z n → Within z n
skipped_within z n (inl h) = let l = blank_within z h.1 in (omega (arith, h.0), omega (arith, h.0, l))
skipped_within z n (inr (inl h)) = (run_moves (in_line z) n h.2 (line_moves z h.0), run_within (in_line z) n (length z) h.2 (no_line z))
skipped_within z n (inr (inr h)) =
    let all : length z ≡ suc (suc (length h.0)) = ap length h.3 in
    let marks = marks_length h.2 h.0 (61 ∷ 35 ∷ h.1) h.4 in
    (omega (arith, h.6), omega (arith, h.6, all, marks))

-- ---- words

no_bytes : (s t : ℕ) → s ≡ 0 → (continues_word s || (s == 33 && not (t == 61))) ≡ false
no_bytes s t e = rw e refl

no_whole : (z : Text) → in_whole z (length z) ≡ false
no_whole [] = refl
no_whole (b ∷ z) = no_bytes (slice_index z (length z)) (slice_index z (suc (length z))) (past_end z)

pub whole_moves : (z : Text) → begins_word (slice_index z 0) ≡ true → in_whole z 0 ≡ true
whole_moves z h = grind (arith, or_cases, or_left, or_right, h)

prefix_within : (z : Text) (start : ℕ) → HasPrefix z start → Within z start
prefix_within z start (inl h) = let l = front_within (codes "Base.Threads.") z h.1.0 in (omega (arith, h.0), omega (arith, h.0, l))
prefix_within z start (inr (inl h)) = let l = front_within (codes "Threads.") z h.1.0 in (omega (arith, h.0), omega (arith, h.0, l))
prefix_within z start (inr (inr h)) = let l = front_within (codes "Base.") z h.1.0 in (omega (arith, h.0), omega (arith, h.0, l))

start_within : (z : Text) (start m : ℕ) → begins_word (slice_index z 0) ≡ true → BeginsAt z start → IsSpan (in_whole (drop start z)) m → (1 ≤ start + m) × (start ≤ length z)
start_within z start m h (inl p) r = let w = prefix_within z start p in (omega (arith, w.0), w.1)
start_within z start m h (inr p) r =
    let moves = run_moves (in_whole (drop 0 z)) m (subst (λ k. IsSpan (in_whole (drop k z)) m) p.0 r) (whole_moves z h) in
    (omega (arith, moves), omega (arith, p.0))

word_within : (z : Text) (start m n : ℕ) → IsWord z start m → n ≡ start + m → Within z n
word_within z start m n h e =
    let w = start_within z start m h.0 h.2 h.3 in
    let end = run_within (in_whole (drop start z)) m (length (drop start z)) h.3 (no_whole (drop start z)) in
    (omega (arith, e, w.0), omega (arith, e, w.1, end, length-drop start z))

-- ---- all

string_within : (z : Text) (bs : List ℕ) (n : ℕ) → IsString z bs n → Within z n
string_within z bs n h =
    let all : length z ≡ suc (length (part_bytes h.0 ++ 34 ∷ h.1)) = ap length h.2 in
    (omega (arith, h.4), omega (arith, h.4, all, length-append (part_bytes h.0) (34 ∷ h.1)))

free_len : (w : Text) → begins_free w ≡ true → 1 ≤ length w
free_len [] h = absurd (false≢true h)
free_len (b ∷ w) h = omega arith

token_within : (z : Text) (k : TokenKind) (n : ℕ) → IsToken z k n → Within z n
token_within z (kind.Number v) n h = (h.0.0, run_within _ n (length z) h.0.1 (no_number z))
token_within z (kind.Name w) n h = word_within z h.0 h.1 n h.2 h.6
token_within z (kind.Text bs) n h = string_within z bs n h
token_within z (kind.Sign s) n (inl h) = let l = front_within (codes "Base.Threads") z h.1.0 in (omega (arith, h.2), omega (arith, h.2, l))
token_within z (kind.Sign s) n (inr (inl h)) = word_within z h.0 h.1 n h.2 h.4
token_within z (kind.Sign s) n (inr (inr h)) =
    let some = free_len h.0 (sign_free z s n h) in
    let l = front_within h.0 z h.2 in
    (omega (arith, h.3, some), omega (arith, h.3, l))

pub within : (z : Text) (o : Option TokenKind) (n : ℕ) → IsPiece z o n → Within z n
within z None n h = skipped_within z n h
within z (Some k) n h = token_within z k n h

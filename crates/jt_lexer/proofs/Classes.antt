-- The reader's pieces are those of the rules: each text has one piece at its front, or one refusal.
use Rattle.std.proofs.Common.{◌≡◌, ◌≢◌, ℕ, zero, suc, ◌+◌, ◌^◌, ◌<◌, Bool, true, false, not, ◌||◌, ◌⊎◌, inl, inr, List, [], ◌∷◌, ◌++◌, length, take, drop, Option, Some, None, Ok, Err, refl, sym, ap, subst, ◌∙◌, arith, append-nil}
use Rattle.std.specs.Prelude.{slice_index, ◌==◌}
use Rattle.std.specs.Char.{is_ascii_digit}
use Rattle.std.specs.List.{Contains}
use Rattle.std.specs.Option.{is_some}
use Rattle.std.specs.Result.{is_ok}
use Rattle.std.proofs.lemmas.Bool.{false≢true, cases_Bool, cases_eq, cases_lt, ne_eqb, eq-eqb, eqb-true, or_left, or_from}
use Rattle.jt_syntax.specs.declared.token.Sign.{Sign}
use Rattle.jt_syntax.specs.declared.token.Sign.TheVariants as sign
use Rattle.jt_syntax.specs.declared.token.TokenKind.{TokenKind}
use Rattle.jt_syntax.specs.declared.token.TokenKind.TheVariants as kind
use Rattle.jt_lexer.specs.declared.error.LexError.{LexError}
use Rattle.jt_lexer.specs.declared.error.LexError.TheVariants as error
use Rattle.jt_lexer.specs.declared.piece.Shape.{Shape}
use Rattle.jt_lexer.specs.declared.piece.Shape.TheVariants as shape
use Rattle.jt_lexer.specs.declared.piece.Defect.{Defect}
use Rattle.jt_lexer.specs.declared.piece.Defect.TheVariants as defect
use Rattle.jt_lexer.specs.Words.{of_threads, of_base}
use Rattle.jt_lexer.specs.Pieces.{Text, Piece, is_blank, line_len, comment, begins_word, whole_len, is_listed, prefix_len, is_base_threads, reserved, word_at, piece}
use Rattle.jt_lexer.specs.Lexer.{token_kind, lex_error}
use Rattle.jt_lexer.specs.Rules.{IsSpan, in_number, in_whole, value, HasPrefix, BeginsAt, IsBaseThreads, IsWord, IsNoMacro, IsLineComment, IsOpenComment, IsOpenString, IsNumeral, IsTooLarge, IsSkipped, IsToken, IsPiece, IsBad, IsRefusal, meaning, part_bytes}
use Rattle.jt_lexer.proofs.Fronts.{at_blank, at_comment, at_number, at_string, at_word}
use Rattle.jt_lexer.proofs.Runs.{run_unique, a_run, line_len_run, whole_len_run, numbered, small_number, large_number, number_is, no_number}
use Rattle.jt_lexer.proofs.Comments.{nested_is, open_comment_is, comment_ends}
use Rattle.jt_lexer.proofs.Strings.{string_is, string_means, open_string_is, bad_string_is, of_parts, OfParts, PartsEnd}
use Rattle.jt_lexer.proofs.WordRules.{base_begins, all_pass, listed_passes, listed_at, begins_at, base_threads_is, is_base_threads_piece, name_is, name_means, keyword_is, macro_call_is, no_macro_is}
use Rattle.jt_lexer.proofs.SignRules.{sign_is, stray_is, a_sign}

-- ---- what the rules say is what the reader gives

-- the reader gives a piece of this length, which stands for this token, or none
abbrev pub IsGiven : Text → Option TokenKind → ℕ → Type 0
IsGiven z o n = (s : Shape) × (piece z ≡ Ok (s, n)) × (token_kind s (take n z) ≡ o)

line_is : (z : Text) (n : ℕ) → IsLineComment z n → comment z ≡ Ok (shape.Blank, n)
unfolding comment
line_is z n h =
    let line : (slice_index z 1 == 61) ≡ false = ne_eqb (slice_index z 1) 61 h.1 in
    rw line (ap (λ k. Ok (shape.Blank, k)) (run_unique _ (line_len z) n (line_len_run z) h.2))

skipped_is : (z : Text) (n : ℕ) → IsSkipped z n → piece z ≡ Ok (shape.Blank, n)
skipped_is z n (inl h) = at_blank z h.1 ∙ ap (λ k. Ok (shape.Blank, k)) (sym h.0)
skipped_is z n (inr (inl h)) = at_comment z h.0 ∙ line_is z n h
skipped_is z n (inr (inr h)) = at_comment z (ap (λ y. slice_index y 0) h.3) ∙ nested_is z n h

numeral_is : (z : Text) (v n : ℕ) → IsNumeral z v n → piece z ≡ numbered v n
numeral_is z v n h =
    let digit : is_ascii_digit (slice_index z 0) ≡ true = h.1.0 0 h.0 in
    at_number z digit ∙ (number_is z n digit h.1 ∙ ap (λ x. numbered x n) (sym h.2))

base_threads_piece : (z : Text) → IsBaseThreads z → piece z ≡ Ok (shape.Sign sign.BaseThreads, 12)
unfolding word_at
base_threads_piece z h = at_word z (base_begins z h) ∙ rw (base_threads_is z h) refl

token_is : (z : Text) (k : TokenKind) (n : ℕ) → IsToken z k n → IsGiven z (Some k) n
token_is z (kind.Number v) n h = (shape.Number v, numeral_is z v n h.0 ∙ small_number v n h.1, refl)
token_is z (kind.Name w) n h = (shape.Name h.0, at_word z h.2.0 ∙ name_is z w n h, ap (λ y. Some (kind.Name y)) (name_means z w n h))
token_is z (kind.Text bs) n h = (shape.Text, at_string z (ap (λ y. slice_index y 0) h.2) ∙ string_is z bs n h, ap (λ y. Some (kind.Text y)) (string_means z bs n h))
token_is z (kind.Sign s) n (inl h) = (shape.Sign sign.BaseThreads, base_threads_piece z h.1 ∙ ap (λ k. Ok (shape.Sign sign.BaseThreads, k)) (sym h.2), ap (λ y. Some (kind.Sign y)) (sym h.0))
token_is z (kind.Sign s) n (inr (inl h)) = (shape.Sign s, at_word z h.2.0 ∙ keyword_is z s n h, refl)
token_is z (kind.Sign s) n (inr (inr h)) = (shape.Sign s, sign_is z s n h, refl)

pub piece_is : (z : Text) (o : Option TokenKind) (n : ℕ) → IsPiece z o n → IsGiven z o n
piece_is z None n h = (shape.Blank, skipped_is z n h, refl)
piece_is z (Some k) n h = token_is z k n h

bad_is : (z : Text) (n : ℕ) → IsBad z n → piece z ≡ Err (defect.BadCharacter n)
bad_is z n (inl h) = at_string z (ap (λ y. slice_index y 0) h.2) ∙ bad_string_is z n h
bad_is z n (inr (inl h)) = at_word z h.3.0 ∙ macro_call_is z n h
bad_is z n (inr (inr (e, inl h))) = at_word z (ap begins_word h.1) ∙ (no_macro_is z h ∙ ap (λ k. Err (defect.BadCharacter k)) (sym e))
bad_is z n (inr (inr (e, inr h))) = stray_is z h ∙ ap (λ k. Err (defect.BadCharacter k)) (sym e)

open_is : (z : Text) → IsOpenComment z ⊎ IsOpenString z → piece z ≡ Err defect.OpenString
open_is z (inl h) = at_comment z (ap (λ y. slice_index y 0) h.3) ∙ open_comment_is z h
open_is z (inr h) = at_string z (ap (λ y. slice_index y 0) h.1) ∙ open_string_is z h

too_large_is : (z : Text) → IsTooLarge z → piece z ≡ Err defect.NumberTooLarge
too_large_is z h = numeral_is z h.0 h.1 h.2 ∙ large_number h.0 h.1 h.3

pub refusal_is : (z : Text) (at : ℕ) (e : LexError) → IsRefusal z at e → (f : Defect) × (piece z ≡ Err f) × (e ≡ lex_error f at)
refusal_is z at (error.BadCharacter place) h = (defect.BadCharacter h.0, bad_is z h.0 h.1, ap error.BadCharacter h.2)
refusal_is z at (error.OpenString place) h = (defect.OpenString, open_is z h.0, ap error.OpenString h.1)
refusal_is z at (error.NumberTooLarge place) h = (defect.NumberTooLarge, too_large_is z h.0, ap error.NumberTooLarge h.1)
refusal_is z at error.OutOfMemory h = absurd h

-- ---- each text has a piece or a refusal

abbrev pub Refused : Text → Type 0
Refused z = ((n : ℕ) × IsBad z n) ⊎ ((IsOpenComment z ⊎ IsOpenString z) ⊎ IsTooLarge z)

abbrev pub Total : Text → Type 0
Total z = ((o : Option TokenKind) × (n : ℕ) × IsPiece z o n) ⊎ Refused z

comment_total : (z : Text) → slice_index z 0 ≡ 35 → Total z
comment_total [] h = absurd (omega (arith, h))
comment_total (b ∷ []) h = inl (None, line_len (b ∷ []), inr (inl (h, (λ e. absurd (omega (arith, e))), line_len_run (b ∷ []))))
comment_total (b ∷ c ∷ y) h =
    let front : c ≡ 61 → b ∷ c ∷ y ≡ 35 ∷ 61 ∷ y = λ e. ap (λ x. x ∷ c ∷ y) h ∙ ap (λ x. 35 ∷ x ∷ y) e in
    elim (cases_eq c 61) [
      | inl e ↦ elim (comment_ends y 0) [
        | inl k ↦ inl (None, _, inr (inr (y, k.1, k.0, front e, k.2, k.3, refl)))
        | inr k ↦ inr (inr (inl (inl (y, k.0, k.1, front e, k.2, k.3))))
      ]
      | inr e ↦ inl (None, line_len (b ∷ c ∷ y), inr (inl (h, e, line_len_run (b ∷ c ∷ y))))
    ]

some_digit : (z : Text) (n : ℕ) → is_ascii_digit (slice_index z 0) ≡ true → IsSpan (in_number z) n → 0 < n
some_digit z zero h r = absurd (false≢true (sym r.1 ∙ h))
some_digit z (suc n) h r = omega arith

number_total : (z : Text) → is_ascii_digit (slice_index z 0) ≡ true → Total z
number_total z h =
    let run = a_run (in_number z) (length z) (no_number z) in
    let v = value 0 (take run.0 z) in
    let numeral : IsNumeral z v run.0 = (some_digit z run.0 h run.1, run.1, refl) in
    elim (cases_lt v (2 ^ 63)) [
      | inl small ↦ inl (Some (kind.Number v), run.0, (numeral, small))
      | inr large ↦ inr (inr (inr (v, run.0, numeral, large)))
    ]

string_ends : (z y : Text) (p : OfParts y) → z ≡ 34 ∷ y → PartsEnd p.1 → Total z
string_ends z y p e (inl h) = inr (inr (inl (inr (p.0, e ∙ ap (λ x. 34 ∷ x) (p.2 ∙ (ap (λ x. part_bytes p.0 ++ x) h ∙ append-nil (part_bytes p.0))), p.3))))
string_ends z y p e (inr (inl h)) = inl (Some (kind.Text (meaning p.0)), length (part_bytes p.0) + 2, (p.0, h.0, e ∙ ap (λ x. 34 ∷ x) (p.2 ∙ ap (λ x. part_bytes p.0 ++ x) h.1), p.3, refl, refl))
string_ends z y p e (inr (inr h)) = inr (inl (length (part_bytes p.0) + 1, inl (p.0, p.1, e ∙ ap (λ x. 34 ∷ x) p.2, p.3, h, refl)))

string_total : (z : Text) → slice_index z 0 ≡ 34 → Total z
string_total [] h = absurd (omega (arith, h))
string_total (b ∷ y) h = let p = of_parts y in string_ends (b ∷ y) y p (ap (λ x. x ∷ y) h) p.4

-- ---- words

-- where the word begins with an `@`, it is a macro word
known : Text → Bool
known w = not (slice_index w 0 == 64) || is_some (reserved w)

threads_known : all_pass known of_threads ≡ true
unfolding known reserved
threads_known = refl

base_known : all_pass known of_base ≡ true
unfolding known reserved
base_known = refl

begun : (y : Text) (m : ℕ) → slice_index y 0 ≡ 64 → IsSpan (in_whole y) m → slice_index (take m y) 0 ≡ 64
begun y zero h r = absurd (false≢true (sym r.1 ∙ or_left _ _ (eq-eqb (slice_index y 0) 64 h)))
begun [] (suc m) h r = h
begun (b ∷ y) (suc m) h r = h

unknown : (w : Text) → known w ≡ true → slice_index w 0 ≡ 64 → reserved w ≡ None → ⊥
unfolding known
unknown w h at free =
    let mark : not (slice_index w 0 == 64) ≡ false = ap not (eq-eqb (slice_index w 0) 64 at) in
    false≢true (sym (or_from _ _ mark (ap is_some free)) ∙ h)

macro_listed : (ws : List Text) (y : Text) (m n : ℕ) → all_pass known ws ≡ true → IsSpan (in_whole y) m → IsSpan (in_whole y) n → Contains ws (take n y) → slice_index y 0 ≡ 64 → reserved (take m y) ≡ None → ⊥
macro_listed ws y m n h r s c at free =
    let same : n ≡ m = run_unique (in_whole y) n m s r in
    let listed : is_listed ws (take m y) ≡ true = ap (λ k. is_listed ws (take k y)) (sym same) ∙ listed_at ws (take n y) c.0 c.1 c.2 in
    unknown (take m y) (listed_passes known ws (take m y) h listed) (begun y m at r) free

-- no `@` behind a prefix begins another word than a macro word
prefixed_macro : (z : Text) (start m : ℕ) → HasPrefix z start → IsSpan (in_whole (drop start z)) m → slice_index (drop start z) 0 ≡ 64 → reserved (take m (drop start z)) ≡ None → ⊥
prefixed_macro z start m (inl p) r at free =
    let P : ℕ → Type 0 = λ k. IsSpan (in_whole (drop k z)) m × (slice_index (drop k z) 0 ≡ 64) × (reserved (take m (drop k z)) ≡ None) in
    let moved : P 13 = subst P p.0 (r, at, free) in
    macro_listed of_threads (drop 13 z) m p.1.1 threads_known moved.0 p.1.2 p.1.3 moved.1 moved.2
prefixed_macro z start m (inr (inl p)) r at free =
    let P : ℕ → Type 0 = λ k. IsSpan (in_whole (drop k z)) m × (slice_index (drop k z) 0 ≡ 64) × (reserved (take m (drop k z)) ≡ None) in
    let moved : P 8 = subst P p.0 (r, at, free) in
    macro_listed of_threads (drop 8 z) m p.1.1 threads_known moved.0 p.1.2 p.1.3 moved.1 moved.2
prefixed_macro z start m (inr (inr p)) r at free =
    let P : ℕ → Type 0 = λ k. IsSpan (in_whole (drop k z)) m × (slice_index (drop k z) 0 ≡ 64) × (reserved (take m (drop k z)) ≡ None) in
    let moved : P 5 = subst P p.0 (r, at, free) in
    macro_listed of_base (drop 5 z) m p.1.1 base_known moved.0 p.1.2 p.1.3 moved.1 moved.2

no_macro : (z : Text) (start m : ℕ) → BeginsAt z start → IsSpan (in_whole (drop start z)) m → slice_index (drop start z) 0 ≡ 64 → reserved (take m (drop start z)) ≡ None → IsNoMacro z
no_macro z start m (inl p) r at free = absurd (prefixed_macro z start m p r at free)
no_macro z start m (inr p) r at free =
    let P : ℕ → Type 0 = λ k. (slice_index (drop k z) 0 ≡ 64) × IsSpan (in_whole (drop k z)) m × (reserved (take m (drop k z)) ≡ None) in
    let moved : P 0 = subst P p.0 (at, r, free) in
    (m, moved.0, moved.1, moved.2)

word_kind : (z : Text) (start m : ℕ) → IsWord z start m → (o : Option Sign) → reserved (take m (drop start z)) ≡ o → Total z
word_kind z start m h None e = elim (cases_eq (slice_index (drop start z) 0) 64) [
  | inl at ↦ inr (inl (0, inr (inr (refl, inl (no_macro z start m h.2 h.3 at e)))))
  | inr bare ↦ inl (Some (kind.Name (take m (drop start z))), start + m, (start, m, h, refl, e, bare, refl))
]
word_kind z start m h (Some s) e = elim (cases_eq (slice_index (drop start z) 0) 64) [
  | inl at ↦ elim (cases_eq (slice_index z (start + m)) 40) [
    | inl call ↦ inr (inl (start + m, inr (inl (start, m, s, h, e, refl, at, call))))
    | inr free ↦ inl (Some (kind.Sign s), start + m, inr (inl (start, m, h, e, refl, (λ _. free))))
  ]
  | inr bare ↦ inl (Some (kind.Sign s), start + m, inr (inl (start, m, h, e, refl, (λ at. absurd (bare at)))))
]

word_total : (z : Text) → begins_word (slice_index z 0) ≡ true → Total z
word_total z h =
    let start = prefix_len z in
    let m = whole_len (drop start z) in
    elim (cases_Bool (is_base_threads z)) [
      | inl e ↦ inl (Some (kind.Sign sign.BaseThreads), 12, inl (refl, is_base_threads_piece z e, refl))
      | inr e ↦ word_kind z start m (h, (λ b. false≢true (sym e ∙ base_threads_is z b)), begins_at z, whole_len_run (drop start z)) (reserved (take m (drop start z))) refl
    ]

-- ---- all

not_code : (b k : ℕ) → (b == k) ≡ false → b ≢ k
not_code b k h e = false≢true (sym h ∙ eq-eqb b k e)

sign_total : (z : Text) → is_blank z ≡ false → (slice_index z 0 == 35) ≡ false → is_ascii_digit (slice_index z 0) ≡ false → (slice_index z 0 == 34) ≡ false → begins_word (slice_index z 0) ≡ false → Total z
sign_total z blank hash digit quote word = elim (a_sign z) [
  | inl a ↦ inr (inl (0, inr (inr (refl, inr (blank, not_code _ 35 hash, digit, not_code _ 34 quote, word, a)))))
  | inr h ↦ inl (Some (kind.Sign h.0), h.1, inr (inr h.2))
]

pub total : (z : Text) → Total z
total z =
    let b = slice_index z 0 in
    elim (cases_Bool (is_blank z)) [
      | inl blank ↦ inl (None, 1, inl (refl, blank))
      | inr blank ↦ elim (cases_Bool (b == 35)) [
        | inl hash ↦ comment_total z (eqb-true b 35 hash)
        | inr hash ↦ elim (cases_Bool (is_ascii_digit b)) [
          | inl digit ↦ number_total z digit
          | inr digit ↦ elim (cases_Bool (b == 34)) [
            | inl quote ↦ string_total z (eqb-true b 34 quote)
            | inr quote ↦ elim (cases_Bool (begins_word b)) [
              | inl word ↦ word_total z word
              | inr word ↦ sign_total z blank hash digit quote word
            ]
          ]
        ]
      ]
    ]

-- ---- what the reader gives is what the rules say

abbrev shape_or : Shape → Piece → Shape
shape_or s (Ok p) = p.0
shape_or s (Err f) = s

abbrev length_or : ℕ → Piece → ℕ
length_or n (Ok p) = p.1
length_or n (Err f) = n

abbrev defect_or : Defect → Piece → Defect
defect_or f (Ok p) = f
defect_or f (Err g) = g

no_refusal : (z : Text) → Refused z → is_ok (piece z) ≡ false
no_refusal z (inl h) = ap is_ok (bad_is z h.0 h.1)
no_refusal z (inr (inl h)) = ap is_ok (open_is z h)
no_refusal z (inr (inr h)) = ap is_ok (too_large_is z h)

given : (z : Text) (s : Shape) (n : ℕ) → piece z ≡ Ok (s, n) → (o : Option TokenKind) (m : ℕ) → IsPiece z o m → IsPiece z (token_kind s (take n z)) n
given z s n e o m h =
    let g = piece_is z o m h in
    let shapes : g.0 ≡ s = ap (shape_or s) (sym g.1 ∙ e) in
    let lengths : m ≡ n = ap (length_or n) (sym g.1 ∙ e) in
    let kinds : o ≡ token_kind s (take n z) = sym g.2 ∙ (ap (λ t. token_kind t (take m z)) shapes ∙ ap (λ k. token_kind s (take k z)) lengths) in
    subst (λ k. IsPiece z (token_kind s (take n z)) k) lengths (subst (λ p. IsPiece z p m) kinds h)

pub piece_sound : (z : Text) (s : Shape) (n : ℕ) → piece z ≡ Ok (s, n) → IsPiece z (token_kind s (take n z)) n
piece_sound z s n e = elim (total z) [
  | inl h ↦ given z s n e h.0 h.1 h.2
  | inr h ↦ absurd (false≢true (sym (no_refusal z h) ∙ ap is_ok e))
]

refused_for : (z : Text) (at : ℕ) → Refused z → (e : LexError) × IsRefusal z at e
refused_for z at (inl h) = (error.BadCharacter (at + h.0), (h.0, h.1, refl))
refused_for z at (inr (inl h)) = (error.OpenString at, (h, refl))
refused_for z at (inr (inr h)) = (error.NumberTooLarge at, (h, refl))

same_refusal : (z : Text) (at : ℕ) (f : Defect) → piece z ≡ Err f → (e : LexError) → IsRefusal z at e → IsRefusal z at (lex_error f at)
same_refusal z at f h e r =
    let g = refusal_is z at e r in
    let defects : g.0 ≡ f = ap (defect_or f) (sym g.1 ∙ h) in
    subst (IsRefusal z at) (g.2 ∙ ap (λ x. lex_error x at) defects) r

pub refusal_sound : (z : Text) (at : ℕ) (f : Defect) → piece z ≡ Err f → IsRefusal z at (lex_error f at)
refusal_sound z at f e = elim (total z) [
  | inl h ↦ absurd (false≢true (ap is_ok (sym e ∙ (piece_is z h.0 h.1 h.2).1)))
  | inr h ↦ let r = refused_for z at h in same_refusal z at f e r.0 r.1
]

-- ---- each text has exactly one piece or refusal

pub one_piece : (z : Text) (o p : Option TokenKind) (n m : ℕ) → IsPiece z o n → IsPiece z p m → (o ≡ p) × (n ≡ m)
one_piece z o p n m h k =
    let g = piece_is z o n h in
    let i = piece_is z p m k in
    let shapes : g.0 ≡ i.0 = ap (shape_or g.0) (sym g.1 ∙ i.1) in
    let lengths : n ≡ m = ap (length_or n) (sym g.1 ∙ i.1) in
    (sym g.2 ∙ (ap (λ s. token_kind s (take n z)) shapes ∙ (ap (λ l. token_kind i.0 (take l z)) lengths ∙ i.2)), lengths)

pub one_refusal : (z : Text) (at : ℕ) (e f : LexError) → IsRefusal z at e → IsRefusal z at f → e ≡ f
one_refusal z at e f h k =
    let g = refusal_is z at e h in
    let i = refusal_is z at f k in
    g.2 ∙ (ap (λ x. lex_error x at) (ap (defect_or g.0) (sym g.1 ∙ i.1)) ∙ sym i.2)

pub not_both : (z : Text) (at : ℕ) (o : Option TokenKind) (n : ℕ) (e : LexError) → IsPiece z o n → IsRefusal z at e → ⊥
not_both z at o n e h k = false≢true (ap is_ok (sym (refusal_is z at e k).1 ∙ (piece_is z o n h).1))

pub piece_or_refusal : (z : Text) (at : ℕ) → ((o : Option TokenKind) × (n : ℕ) × IsPiece z o n) ⊎ ((e : LexError) × IsRefusal z at e)
piece_or_refusal z at = elim (total z) [
  | inl h ↦ inl h
  | inr h ↦ inr (refused_for z at h)
]

-- The strings of a text in UTF-8 are texts in UTF-8.
use Rattle.std.proofs.Common.{◌≡◌, ℕ, zero, suc, ◌+◌, ◌-◌, ◌<◌, ◌≤◌, Bool, true, false, not, ◌&&◌, ◌||◌, inl, inr, nat_eq, nat_lt, List, [], ◌∷◌, ◌++◌, length, drop, get_or, Option, Some, None, refl, sym, ap, subst, ◌∙◌, arith, length-append, length-drop}
use Rattle.std.specs.Prelude.{slice_index, slice_index_or, ◌==◌, codes}
use Rattle.std.specs.Char.{is_ascii_digit}
use Rattle.std.specs.List.{starts_with}
use Rattle.std.specs.Str.{IsUtf8, IsCharBoundary, bytes_eq, chars}
use Rattle.std.proofs.lemmas.Bool.{and_parts, or_cases, leb-true, eqb-true, ltb-true, cases_lt, not-false}
use Rattle.std.proofs.lemmas.List.{get_or-drop, get_or_append_left}
use Rattle.std.proofs.Math.Seq.{get_or-append_seam, take-append_seam}
use Rattle.std.proofs.lemmas.Slice.Eq.{bytes_eq-Decides}
use Rattle.std.proofs.lemmas.Str.{IsUtf8-nil, IsUtf8-append, IsUtf8-encode, IsUtf8-take, IsUtf8-drop, IsCharBoundary-end, IsCharBoundary-before_ascii, IsCharBoundary-after_ascii, encode_same, encode_ascii}
use lib.Utf8.{scalar, scalars, encode, encodes}
use Rattle.jt_syntax.specs.declared.token.Sign.{Sign}
use Rattle.jt_syntax.specs.declared.token.Token.{Token}
use Rattle.jt_syntax.specs.declared.token.TokenKind.{TokenKind}
use Rattle.jt_syntax.specs.declared.token.TokenKind.TheVariants as kind
use Rattle.jt_lexer.specs.Words.{signs}
use Rattle.jt_lexer.specs.Pieces.{Text, is_blank, is_escape, continues_word}
use Rattle.jt_lexer.specs.Lexer.{escape}
use Rattle.jt_lexer.specs.Rules.{IsSpan, in_line, in_number, in_word, in_whole, CommentMark, opening, closing, other, ReadsMarks, size, Part, plain, escaped, part_bytes, meaning, AreParts, BeginsAt, IsWord, IsSign, IsString, IsSkipped, IsToken, IsPiece}
use Rattle.jt_lexer.specs.Tokens.{IsTokensOf}
use Rattle.jt_lexer.specs.Spelled.{IsTextual, AreTextual, kinds}
use Rattle.jt_lexer.proofs.LexLemmas.{drop_twice}
use Rattle.jt_lexer.proofs.WordRules.{starts_as}
use Rattle.jt_lexer.proofs.SignRules.{spells_at}
use Rattle.jt_lexer.proofs.Lengths.{within}
use Rattle.jt_lexer.proofs.EachToken.{each_token}
use Rattle.jt_lexer.proofs.SpelledTexts.{ascii_then, all_high}

-- ---- a text may be cut behind each piece

behind : (z : Text) (n : ℕ) → IsUtf8 z → n < length z → slice_index z n < 128 → IsUtf8 (drop (n + 1) z)
behind z n u l a = IsUtf8-drop z (n + 1) u (IsCharBoundary-after_ascii z n u l a)

behind_last : (z : Text) (n : ℕ) → IsUtf8 z → (1 ≤ n) × (n ≤ length z) → slice_index z (n - 1) < 128 → IsUtf8 (drop n z)
behind_last z n u w a =
    let e : n - 1 + 1 ≡ n = omega (arith, w.0) in
    subst (λ k. IsUtf8 (drop k z)) e (behind z (n - 1) u (omega (arith, w.0, w.1)) a)

behind_run : (test : ℕ → Bool) (z : Text) (n : ℕ) → ((k : ℕ) → test k ≡ true → slice_index z k < 128) → IsSpan test n → n ≤ length z → IsUtf8 z → IsUtf8 (drop n z)
behind_run test z zero a r l u = u
behind_run test z (suc n) a r l u =
    let e : n + 1 ≡ suc n = omega arith in
    subst (λ k. IsUtf8 (drop k z)) e (behind z n u (omega (arith, l)) (a n (r.0 n (omega arith))))

number_ascii : (z : Text) (k : ℕ) → in_number z k ≡ true → slice_index z k < 128
number_ascii z zero h = grind (arith, and_parts, leb-true, h)
number_ascii z (suc k) h = elim (or_cases (is_ascii_digit (slice_index z (suc k))) _ h) [
  | inl d ↦ grind (arith, and_parts, leb-true, d)
  | inr m ↦ grind (arith, and_parts, eqb-true, m)
]

byte_ascii : (b c : ℕ) → (continues_word b || (b == 33 && not (c == 61))) ≡ true → b < 128
byte_ascii b c h = grind (arith, and_parts, or_cases, leb-true, eqb-true, h)

whole_ascii : (z : Text) (k : ℕ) → in_whole z k ≡ true → slice_index z k < 128
whole_ascii z zero h = elim (or_cases (slice_index z 0 == 64) (in_word z 0) h) [
  | inl a ↦ omega (arith, eqb-true (slice_index z 0) 64 a)
  | inr w ↦ byte_ascii (slice_index z 0) (slice_index z 1) w
]
whole_ascii z (suc k) h = byte_ascii (slice_index z (suc k)) (slice_index z (suc (suc k))) h

blank_ascii : (z : Text) → is_blank z ≡ true → slice_index z 0 < 128
blank_ascii z h = grind (arith, and_parts, or_cases, eqb-true, h)

line_stop : (z : Text) (n : ℕ) → in_line z n ≡ false → n < length z → slice_index z n ≡ 10
line_stop [] n h l = absurd (omega (arith, l))
line_stop (b ∷ z) zero h l = eqb-true b 10 (not-false (b == 10) h)
line_stop (b ∷ z) (suc n) h l = line_stop z n h (omega (arith, l))

behind_line : (z : Text) (n : ℕ) → in_line z n ≡ false → n ≤ length z → IsUtf8 z → IsUtf8 (drop n z)
behind_line z n h l u = elim (cases_lt n (length z)) [
  | inl less ↦ IsUtf8-drop z n u (IsCharBoundary-before_ascii z n less (omega (arith, line_stop z n h less)))
  | inr all ↦ let e : length z ≡ n = omega (arith, l, all) in IsUtf8-drop z n u (subst (IsCharBoundary z) e (IsCharBoundary-end z))
]

marks_left : (ms : List CommentMark) (z rest : Text) → ReadsMarks ms z rest → drop (size ms) z ≡ rest
marks_left [] z rest h = h
marks_left (opening ∷ ms) z rest h = ap (drop (2 + size ms)) h.1 ∙ (sym (drop_twice 2 (size ms) (35 ∷ 61 ∷ h.0)) ∙ marks_left ms h.0 rest h.2)
marks_left (closing ∷ ms) z rest h = ap (drop (2 + size ms)) h.1 ∙ (sym (drop_twice 2 (size ms) (61 ∷ 35 ∷ h.0)) ∙ marks_left ms h.0 rest h.2)
marks_left (other b ∷ ms) z rest h = ap (drop (1 + size ms)) h.1 ∙ (sym (drop_twice 1 (size ms) (b ∷ h.0)) ∙ marks_left ms h.0 rest h.4)

comment_last : (inside rest : Text) (ms : List CommentMark) → ReadsMarks ms inside (61 ∷ 35 ∷ rest) → slice_index (35 ∷ 61 ∷ inside) (size ms + 4 - 1) ≡ 35
comment_last inside rest ms h =
    let place : size ms + 4 - 1 ≡ suc (suc (size ms + 1)) = omega arith in
    ap (slice_index (35 ∷ 61 ∷ inside)) place ∙ (sym (get_or-drop (size ms) inside 1 0) ∙ ap (λ y. slice_index y 1) (marks_left ms inside (61 ∷ 35 ∷ rest) h))

behind_skipped : (z : Text) (n : ℕ) → IsSkipped z n → IsUtf8 z → (1 ≤ n) × (n ≤ length z) → IsUtf8 (drop n z)
behind_skipped z n (inl h) u w =
    let place : n - 1 ≡ 0 = omega (arith, h.0) in
    behind_last z n u w (subst (λ k. slice_index z k < 128) (sym place) (blank_ascii z h.1))
behind_skipped z n (inr (inl h)) u w = behind_line z n h.2.1 w.1 u
behind_skipped z n (inr (inr h)) u w =
    let last : slice_index z (n - 1) ≡ 35 = ap (λ k. slice_index z (k - 1)) h.6 ∙ (ap (λ y. slice_index y (size h.2 + 4 - 1)) h.3 ∙ comment_last h.0 h.1 h.2 h.4) in
    behind_last z n u w (omega (arith, last))

-- ---- behind words

behind_text : (p z : Text) (c : ℕ) → starts_with nat_eq z (p ++ c ∷ []) ≡ true → c < 128 → IsUtf8 z → IsUtf8 (drop (length p + 1) z)
behind_text p z c h a u =
    let whole = p ++ c ∷ [] in
    let front : z ≡ whole ++ drop (length whole) z = starts_as whole z h in
    let long : length whole ≡ length p + 1 = length-append p (c ∷ []) in
    let all : length z ≡ length whole + length (drop (length whole) z) = ap length front ∙ length-append whole (drop (length whole) z) in
    let at : slice_index z (length p) ≡ c = ap (λ y. slice_index y (length p)) front ∙ (get_or_append_left whole (drop (length whole) z) 0 (length p) (omega (arith, long)) ∙ get_or-append_seam p c [] 0) in
    behind z (length p) u (omega (arith, all, long)) (omega (arith, at, a))

behind_prefix : (z : Text) (start : ℕ) → BeginsAt z start → IsUtf8 z → IsUtf8 (drop start z)
behind_prefix z start (inl (inl h)) u = subst (λ k. IsUtf8 (drop k z)) (sym h.0) (behind_text (codes "Base.Threads") z 46 h.1.0 (omega arith) u)
behind_prefix z start (inl (inr (inl h))) u = subst (λ k. IsUtf8 (drop k z)) (sym h.0) (behind_text (codes "Threads") z 46 h.1.0 (omega arith) u)
behind_prefix z start (inl (inr (inr h))) u = subst (λ k. IsUtf8 (drop k z)) (sym h.0) (behind_text (codes "Base") z 46 h.1.0 (omega arith) u)
behind_prefix z start (inr h) u = subst (λ k. IsUtf8 (drop k z)) (sym h.0) u

behind_word : (z : Text) (start m n : ℕ) → IsWord z start m → n ≡ start + m → n ≤ length z → IsUtf8 z → IsUtf8 (drop n z)
behind_word z start m n h e l u =
    let bare = drop start z in
    let short : m ≤ length bare = omega (arith, length-drop start z, e, l) in
    subst IsUtf8 (drop_twice start m z ∙ ap (λ k. drop k z) (sym e)) (behind_run (in_whole bare) bare m (whole_ascii bare) h.3 short (behind_prefix z start h.2 u))

-- ---- behind signs

-- a sign ends in ASCII, or is one character
abbrev ends_well : Text → Bool
ends_well w = nat_lt (slice_index w (length w - 1)) 128 || bytes_eq w (encode (slice_index (chars w) 0))

signs_end_well : (e : Text × Sign) (k : ℕ) → k < length signs → slice_index_or signs k e ≡ e → ends_well e.0 ≡ true
unfolding chars encode
signs_end_well e k l i = spells_at ends_well signs e k refl l i

one_char_off : (cs : List ℕ) (c : ℕ) (y : Text) → scalars cs ≡ true → encodes cs ≡ encode c ++ y → 1 ≤ length (encode c) → IsUtf8 y
one_char_off [] c y ok e l =
    let none : 0 ≡ length (encode c) + length y = ap length e ∙ length-append (encode c) y in
    absurd (omega (arith, none, l))
one_char_off (d ∷ cs) c y ok e l = (cs, ((and_parts (scalar d) (scalars cs) ok).1, (encode_same d c (encodes cs) y e).1))

behind_sign : (z : Text) (s : Sign) (n : ℕ) → IsSign z s n → (1 ≤ n) × (n ≤ length z) → IsUtf8 z → IsUtf8 (drop n z)
behind_sign z s n h w u =
    let sign = h.0 in
    let rest = drop (length sign) z in
    let front : z ≡ sign ++ rest = starts_as sign z h.2 in
    elim (or_cases (nat_lt (slice_index sign (length sign - 1)) 128) _ (signs_end_well (h.0, s) h.1.0 h.1.1 h.1.2)) [
      | inl a ↦
          let last : slice_index z (n - 1) ≡ slice_index sign (length sign - 1) = ap (λ k. slice_index z (k - 1)) h.3 ∙ (ap (λ y. slice_index y (length sign - 1)) front ∙ get_or_append_left sign rest 0 (length sign - 1) (omega (arith, h.3, w.0))) in
          behind_last z n u w (subst (λ b. b < 128) (sym last) (ltb-true (slice_index sign (length sign - 1)) 128 a))
      | inr one ↦
          let c = slice_index (chars sign) 0 in
          let same : sign ≡ encode c = (bytes_eq-Decides sign (encode c)).0 one in
          let whole : encodes u.0 ≡ encode c ++ rest = u.1.1 ∙ (front ∙ ap (λ x. x ++ rest) same) in
          let some : 1 ≤ length (encode c) = subst (λ k. 1 ≤ k) (h.3 ∙ ap length same) w.0 in
          subst (λ k. IsUtf8 (drop k z)) (sym h.3) (one_char_off u.0 c rest u.1.0 whole some)
    ]

-- ---- what a string means

-- parts that begin with bytes of 128 or more stand for them
abbrev Stripped : Text → Text → List Part → Type 0
Stripped e y ps = (qs : List Part) × (part_bytes qs ≡ y) × (meaning ps ≡ e ++ meaning qs) × AreParts qs

head_of : (b c : ℕ) (w y : Text) → b ∷ w ≡ c ∷ y → b ≡ c
head_of b c w y e = ap (λ z. slice_index z 0) e

tail_of : (b c : ℕ) (w y : Text) → b ∷ w ≡ c ∷ y → w ≡ y
tail_of b c w y e = ap (drop 1) e

strip : (e y : Text) (ps : List Part) → ((k : ℕ) → k < length e → 128 ≤ get_or e k 0) → part_bytes ps ≡ e ++ y → AreParts ps → Stripped e y ps
strip [] y ps h w a = (ps, w, refl, a)
strip (c ∷ e) y [] h w a = absurd (omega (arith, ap length w))
strip (c ∷ e) y (escaped b ∷ ps) h w a = absurd (omega (arith, head_of 92 c (b ∷ part_bytes ps) (e ++ y) w, h 0 (omega arith)))
strip (c ∷ e) y (plain b ∷ ps) h w a =
    let r = strip e y ps (λ k l. h (suc k) (omega (arith, l))) (tail_of b c (part_bytes ps) (e ++ y) w) a.3 in
    (r.0, r.1, ap (λ x. x ∷ meaning ps) (head_of b c (part_bytes ps) (e ++ y) w) ∙ ap (λ x. c ∷ x) r.2, r.3)

escape_ascii : (b : ℕ) → is_escape b ≡ true → (b < 128) × (escape b < 128)
unfolding escape
escape_ascii b h = (grind (arith, or_cases, eqb-true, h), grind (arith, or_cases, eqb-true, h))

high_part : (c : ℕ) (cs : List ℕ) (ps : List Part) → scalar c ≡ true → 128 ≤ c → part_bytes ps ≡ encode c ++ encodes cs → AreParts ps → ((qs : List Part) → part_bytes qs ≡ encodes cs → AreParts qs → IsUtf8 (meaning qs)) → IsUtf8 (meaning ps)
high_part c cs ps ok h w a rec =
    let r = strip (encode c) (encodes cs) ps (all_high c h) w a in
    subst IsUtf8 (sym r.2) (IsUtf8-append (encode c) (meaning r.0) (IsUtf8-encode c ok) (rec r.0 r.1 r.3))

low_part : (b c : ℕ) (cs : List ℕ) (ps : List Part) → c < 128 → b ∷ part_bytes ps ≡ encode c ++ encodes cs → AreParts ps → ((qs : List Part) → part_bytes qs ≡ encodes cs → AreParts qs → IsUtf8 (meaning qs)) → IsUtf8 (b ∷ meaning ps)
low_part b c cs ps h w a rec =
    let whole : b ∷ part_bytes ps ≡ c ∷ encodes cs = w ∙ ap (λ e. e ++ encodes cs) (encode_ascii c h) in
    let same = head_of b c (part_bytes ps) (encodes cs) whole in
    ascii_then b (meaning ps) (omega (arith, h, same)) (rec ps (tail_of b c (part_bytes ps) (encodes cs) whole) a)

-- an escape's second byte is a character of its own
escape_part : (b : ℕ) (cs : List ℕ) (ps : List Part) → is_escape b ≡ true → b ∷ part_bytes ps ≡ encodes cs → (d : ℕ) (ds : List ℕ) → cs ≡ d ∷ ds → part_bytes ps ≡ encodes ds
escape_part b cs ps h w d ds e =
    let whole : encode d ++ encodes ds ≡ encode b ++ part_bytes ps = ap encodes (sym e) ∙ (sym w ∙ ap (λ x. x ++ part_bytes ps) (sym (encode_ascii b (escape_ascii b h).0))) in
    sym (encode_same d b (encodes ds) (part_bytes ps) whole).1

meaning_text : (cs : List ℕ) (ps : List Part) → scalars cs ≡ true → part_bytes ps ≡ encodes cs → AreParts ps → IsUtf8 (meaning ps)
meaning_text cs [] ok w a = IsUtf8-nil
meaning_text [] (plain b ∷ ps) ok w a = absurd (omega (arith, ap length w))
meaning_text [] (escaped b ∷ ps) ok w a = absurd (omega (arith, ap length w))
meaning_text (c ∷ cs) (plain b ∷ ps) ok w a =
    let p = and_parts (scalar c) (scalars cs) ok in
    elim (cases_lt c 128) [
      | inl low ↦ low_part b c cs ps low w a.3 (λ qs v k. meaning_text cs qs p.1 v k)
      | inr high ↦ high_part c cs (plain b ∷ ps) p.0 high w a (λ qs v k. meaning_text cs qs p.1 v k)
    ]
meaning_text (c ∷ []) (escaped b ∷ ps) ok w a =
    let p = and_parts (scalar c) (scalars []) ok in
    elim (cases_lt c 128) [
      | inl low ↦ absurd (omega (arith, ap length (w ∙ ap (λ e. e ++ []) (encode_ascii c low))))
      | inr high ↦ high_part c [] (escaped b ∷ ps) p.0 high w a (λ qs v k. meaning_text [] qs p.1 v k)
    ]
meaning_text (c ∷ d ∷ cs) (escaped b ∷ ps) ok w a =
    let p = and_parts (scalar c) (scalars (d ∷ cs)) ok in
    let q = and_parts (scalar d) (scalars cs) p.1 in
    elim (cases_lt c 128) [
      | inl low ↦
          let whole : 92 ∷ b ∷ part_bytes ps ≡ c ∷ encodes (d ∷ cs) = w ∙ ap (λ e. e ++ encodes (d ∷ cs)) (encode_ascii c low) in
          let rest = tail_of 92 c (b ∷ part_bytes ps) (encodes (d ∷ cs)) whole in
          ascii_then (escape b) (meaning ps) (escape_ascii b a.0).1 (meaning_text cs ps q.1 (escape_part b (d ∷ cs) ps a.0 rest d cs refl) a.1)
      | inr high ↦ high_part c (d ∷ cs) (escaped b ∷ ps) p.0 high w a (λ qs v k. meaning_text (d ∷ cs) qs p.1 v k)
    ]

string_text : (z : Text) (bs : List ℕ) (n : ℕ) → IsString z bs n → IsUtf8 z → IsUtf8 bs
string_text z bs n h u =
    let behind_quote : IsUtf8 (part_bytes h.0 ++ 34 ∷ h.1) = behind (34 ∷ part_bytes h.0 ++ 34 ∷ h.1) 0 (subst IsUtf8 h.2 u) (omega arith) (omega arith) in
    let all : length (part_bytes h.0 ++ 34 ∷ h.1) ≡ length (part_bytes h.0) + suc (length h.1) = length-append (part_bytes h.0) (34 ∷ h.1) in
    let quote : slice_index (part_bytes h.0 ++ 34 ∷ h.1) (length (part_bytes h.0)) ≡ 34 = get_or-append_seam (part_bytes h.0) 34 h.1 0 in
    let cut = IsUtf8-take (part_bytes h.0 ++ 34 ∷ h.1) (length (part_bytes h.0)) behind_quote (IsCharBoundary-before_ascii _ _ (omega (arith, all)) (omega (arith, quote))) in
    let inside : IsUtf8 (part_bytes h.0) = subst IsUtf8 (take-append_seam (part_bytes h.0) (34 ∷ h.1)) cut in
    subst IsUtf8 (sym h.5) (meaning_text inside.0 h.0 inside.1.0 (sym inside.1.1) h.3)

behind_string : (z : Text) (bs : List ℕ) (n : ℕ) → IsString z bs n → (1 ≤ n) × (n ≤ length z) → IsUtf8 z → IsUtf8 (drop n z)
behind_string z bs n h w u =
    let place : n - 1 ≡ suc (length (part_bytes h.0)) = omega (arith, h.4) in
    let last : slice_index z (n - 1) ≡ 34 = ap (slice_index z) place ∙ (ap (λ y. slice_index y (suc (length (part_bytes h.0)))) h.2 ∙ get_or-append_seam (part_bytes h.0) 34 h.1 0) in
    behind_last z n u w (omega (arith, last))

-- ---- all tokens

behind_token : (z : Text) (k : TokenKind) (n : ℕ) → IsToken z k n → (1 ≤ n) × (n ≤ length z) → IsUtf8 z → IsUtf8 (drop n z)
behind_token z (kind.Number v) n h w u = behind_run (in_number z) z n (number_ascii z) h.0.1 w.1 u
behind_token z (kind.Name x) n h w u = behind_word z h.0 h.1 n h.2 h.6 w.1 u
behind_token z (kind.Text bs) n h w u = behind_string z bs n h w u
behind_token z (kind.Sign s) n (inl h) w u = subst (λ k. IsUtf8 (drop k z)) (sym h.2) (behind_text (codes "Base.Thread") z 115 h.1.0 (omega arith) u)
behind_token z (kind.Sign s) n (inr (inl h)) w u = behind_word z h.0 h.1 n h.2 h.4 w.1 u
behind_token z (kind.Sign s) n (inr (inr h)) w u = behind_sign z s n h w u

behind_piece : (z : Text) (o : Option TokenKind) (n : ℕ) → IsPiece z o n → IsUtf8 z → IsUtf8 (drop n z)
behind_piece z None n h u = behind_skipped z n h u (within z None n h)
behind_piece z (Some k) n h u = behind_token z k n h (within z (Some k) n h) u

of_token : (z : Text) (k : TokenKind) (n : ℕ) → IsToken z k n → IsUtf8 z → IsTextual k
of_token z (kind.Number v) n h u = tt
of_token z (kind.Name x) n h u = tt
of_token z (kind.Text bs) n h u = string_text z bs n h u
of_token z (kind.Sign s) n h u = tt

pub tokens_are_textual : (text : Text) (ts : List Token) → IsUtf8 text → IsTokensOf text ts → AreTextual (kinds ts)
tokens_are_textual text ts u h = each_token IsTextual IsUtf8 of_token behind_piece tt text ts u h

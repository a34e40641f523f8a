-- The rules of tokens, as relations: what a piece at the front of a text is, by its class, and what each refusal is.
-- A text reads as 0 past its end. Lengths and places are in bytes. The bytes that stand here as numbers: 10 newline,
-- 33 `!`, 34 `"`, 35 `#`, 36 `$`, 40 `(`, 46 `.`, 61 `=`, 64 `@`, 92 backslash, 95 `_`, and 48 the digit 0.
use Rattle.std.specs.Prelude.{◌≡◌, ◌≢◌, ℕ, zero, suc, ◌+◌, ◌-◌, ◌*◌, ◌^◌, ◌<◌, ◌≤◌, Bool, true, false, not, ◌&&◌, ◌||◌, ◌⊎◌, if◌then◌else◌, ◌==◌, nat_eq, List, [], ◌∷◌, ◌++◌, length, take, drop, slice_index, Option, Some, None, codes}
use Rattle.std.specs.Char.{is_ascii_digit, is_ascii_alphanumeric}
use Rattle.std.specs.List.{starts_with, All, Contains}
use Rattle.jt_syntax.specs.declared.token.Sign.{Sign}
use Rattle.jt_syntax.specs.declared.token.Sign.TheVariants as sign
use Rattle.jt_syntax.specs.declared.token.TokenKind.{TokenKind}
use Rattle.jt_syntax.specs.declared.token.TokenKind.TheVariants as kind
use Rattle.jt_lexer.specs.declared.error.LexError.{LexError}
use Rattle.jt_lexer.specs.declared.error.LexError.TheVariants as error
use Rattle.jt_lexer.specs.Words.{signs, of_threads, of_base}
use Rattle.jt_lexer.specs.Pieces.{Text, is_blank, is_escape, begins_word, reserved}
use Rattle.jt_lexer.specs.Lexer.{escape}

-- the places before n pass the test, and n is the first that doesn't
abbrev pub IsSpan : (ℕ → Bool) → ℕ → Type 0
IsSpan test n = ((k : ℕ) → k < n → test k ≡ true) × (test n ≡ false)

-- ---- comments

-- a byte that is no newline stands there
abbrev pub in_line : Text → ℕ → Bool
in_line [] k = false
in_line (b ∷ z) zero = not (b == 10)
in_line (b ∷ z) (suc k) = in_line z k

-- `#`, and all up to the newline
abbrev pub IsLineComment : Text → ℕ → Type 0
IsLineComment z n = (slice_index z 0 ≡ 35) × (slice_index z 1 ≢ 61) × IsSpan (in_line z) n

-- what stands in a comment between `#=` and `=#`: marks that open and close inner comments, and other bytes
pub data CommentMark : Type 0 where
  opening : CommentMark
  closing : CommentMark
  other : ℕ → CommentMark

-- A text from left to right, each mark wherever its two bytes stand, so that no two marks share a byte. `rest` is left.
abbrev pub ReadsMarks : List CommentMark → Text → Text → Type 0
ReadsMarks [] z rest = z ≡ rest
ReadsMarks (opening ∷ ms) z rest = (y : Text) × (z ≡ 35 ∷ 61 ∷ y) × ReadsMarks ms y rest
ReadsMarks (closing ∷ ms) z rest = (y : Text) × (z ≡ 61 ∷ 35 ∷ y) × ReadsMarks ms y rest
ReadsMarks (other b ∷ ms) z rest = (y : Text) × (z ≡ b ∷ y) × ((b == 35 && slice_index y 0 == 61) ≡ false) × ((b == 61 && slice_index y 0 == 35) ≡ false) × ReadsMarks ms y rest

-- how many comments are open behind these marks, where none closes more than is open
abbrev pub depth : ℕ → List CommentMark → Option ℕ
depth n [] = Some n
depth n (opening ∷ ms) = depth (suc n) ms
depth zero (closing ∷ ms) = None
depth (suc n) (closing ∷ ms) = depth n ms
depth n (other b ∷ ms) = depth n ms

-- how many bytes these marks and bytes take
abbrev pub size : List CommentMark → ℕ
size [] = 0
size (opening ∷ ms) = 2 + size ms
size (closing ∷ ms) = 2 + size ms
size (other b ∷ ms) = 1 + size ms

-- `#=`, marks that close what they open, and `=#`
abbrev pub IsNestedComment : Text → ℕ → Type 0
IsNestedComment z n = (inside : Text) × (rest : Text) × (ms : List CommentMark) × (z ≡ 35 ∷ 61 ∷ inside) × ReadsMarks ms inside (61 ∷ 35 ∷ rest) × (depth 0 ms ≡ Some 0) × (n ≡ size ms + 4)

-- `#=`, and marks up to the text's end that don't close it
abbrev pub IsOpenComment : Text → Type 0
IsOpenComment z = (inside : Text) × (ms : List CommentMark) × (n : ℕ) × (z ≡ 35 ∷ 61 ∷ inside) × ReadsMarks ms inside [] × (depth 0 ms ≡ Some n)

-- a blank or a comment, which is no token
abbrev pub IsSkipped : Text → ℕ → Type 0
IsSkipped z n = ((n ≡ 1) × (is_blank z ≡ true)) ⊎ (IsLineComment z n ⊎ IsNestedComment z n)

-- ---- numbers

-- a digit, or a `_` between two digits
abbrev pub in_number : Text → ℕ → Bool
in_number z zero = is_ascii_digit (slice_index z 0)
in_number z (suc k) = is_ascii_digit (slice_index z (suc k)) || (slice_index z (suc k) == 95 && is_ascii_digit (slice_index z k) && is_ascii_digit (slice_index z (suc (suc k))))

-- the value of digits behind digits of this value; `_` has none
abbrev pub value : ℕ → Text → ℕ
value v [] = v
value v (b ∷ w) = value (if b == 95 then v else v * 10 + (b - 48)) w

-- n bytes that stand for the value v, however large
abbrev pub IsNumeral : Text → ℕ → ℕ → Type 0
IsNumeral z v n = (0 < n) × IsSpan (in_number z) n × (v ≡ value 0 (take n z))

-- a number is below 2^63
abbrev pub IsNumber : Text → ℕ → ℕ → Type 0
IsNumber z v n = IsNumeral z v n × (v < 2 ^ 63)

abbrev pub IsTooLarge : Text → Type 0
IsTooLarge z = (v : ℕ) × (n : ℕ) × IsNumeral z v n × (2 ^ 63 ≤ v)

-- ---- strings

-- a byte of a string that stands for itself, or a backslash and the byte behind it
pub data Part : Type 0 where
  plain : ℕ → Part
  escaped : ℕ → Part

-- the bytes that these parts are written as
abbrev pub part_bytes : List Part → Text
part_bytes [] = []
part_bytes (plain b ∷ ps) = b ∷ part_bytes ps
part_bytes (escaped b ∷ ps) = 92 ∷ b ∷ part_bytes ps

-- the bytes that these parts stand for
abbrev pub meaning : List Part → List ℕ
meaning [] = []
meaning (plain b ∷ ps) = b ∷ meaning ps
meaning (escaped b ∷ ps) = escape b ∷ meaning ps

-- no quote, `$` or backslash stands for itself, and each escape is one of the five
abbrev pub AreParts : List Part → Type 0
AreParts [] = Unit {0}
AreParts (plain b ∷ ps) = (b ≢ 34) × (b ≢ 36) × (b ≢ 92) × AreParts ps
AreParts (escaped b ∷ ps) = (is_escape b ≡ true) × AreParts ps

-- a quote, parts, and a quote
abbrev pub IsString : Text → List ℕ → ℕ → Type 0
IsString z bs n = (ps : List Part) × (rest : Text) × (z ≡ 34 ∷ part_bytes ps ++ 34 ∷ rest) × AreParts ps × (n ≡ length (part_bytes ps) + 2) × (bs ≡ meaning ps)

-- a quote, and parts up to the text's end
abbrev pub IsOpenString : Text → Type 0
IsOpenString z = (ps : List Part) × (z ≡ 34 ∷ part_bytes ps) × AreParts ps

-- a `$`, or a backslash that begins no escape
abbrev pub IsNoPart : Text → Type 0
IsNoPart z = (slice_index z 0 ≡ 36) ⊎ ((slice_index z 0 ≡ 92) × (is_escape (slice_index z 1) ≡ false))

-- the first byte of a string that may not stand there has the place n
abbrev pub IsBadString : Text → ℕ → Type 0
IsBadString z n = (ps : List Part) × (rest : Text) × (z ≡ 34 ∷ part_bytes ps ++ rest) × AreParts ps × IsNoPart rest × (n ≡ length (part_bytes ps) + 1)

-- ---- words

-- a letter, a digit, `_`, or a `!` that no `=` follows
abbrev pub in_word : Text → ℕ → Bool
in_word z k = (is_ascii_alphanumeric (slice_index z k) || slice_index z k == 95) || (slice_index z k == 33 && not (slice_index z (suc k) == 61))

-- the same, where an `@` may stand before the word
abbrev pub in_whole : Text → ℕ → Bool
in_whole z zero = slice_index z 0 == 64 || in_word z 0
in_whole z (suc k) = in_word z (suc k)

-- this prefix stands at the front, and the whole word behind it is one of these
abbrev pub IsPrefixed : Text → List Text → Text → Type 0
IsPrefixed prefix ws z = (starts_with nat_eq z prefix ≡ true) × (n : ℕ) × IsSpan (in_whole (drop (length prefix) z)) n × Contains ws (take n (drop (length prefix) z))

-- the word at the front has a prefix of this length
abbrev pub HasPrefix : Text → ℕ → Type 0
HasPrefix z n = ((n ≡ 13) × IsPrefixed (codes "Base.Threads.") of_threads z) ⊎ (((n ≡ 8) × IsPrefixed (codes "Threads.") of_threads z) ⊎ ((n ≡ 5) × IsPrefixed (codes "Base.") of_base z))

-- behind a prefix, if there is one, the word begins here
abbrev pub BeginsAt : Text → ℕ → Type 0
BeginsAt z start = HasPrefix z start ⊎ ((start ≡ 0) × ((n : ℕ) → HasPrefix z n → ⊥))

-- `Base.Threads` as a whole, with no dot behind
abbrev pub IsBaseThreads : Text → Type 0
IsBaseThreads z = (starts_with nat_eq z (codes "Base.Threads") ≡ true) × (in_word z 12 ≡ false) × (slice_index z 12 ≢ 46)

-- a word of m bytes, read whole, which begins at `start`
abbrev pub IsWord : Text → ℕ → ℕ → Type 0
IsWord z start m = (begins_word (slice_index z 0) ≡ true) × (IsBaseThreads z → ⊥) × BeginsAt z start × IsSpan (in_whole (drop start z)) m

-- a word that is no keyword and has no rule of its own
abbrev pub IsName : Text → List ℕ → ℕ → Type 0
IsName z w n = (start : ℕ) × (m : ℕ) × IsWord z start m × (w ≡ take m (drop start z)) × (reserved w ≡ None) × (slice_index (drop start z) 0 ≢ 64) × (n ≡ start + m)

-- a keyword, a word with a rule of its own, or a macro word with no parenthesis directly behind it
abbrev pub IsKeyword : Text → Sign → ℕ → Type 0
IsKeyword z s n = (start : ℕ) × (m : ℕ) × IsWord z start m × (reserved (take m (drop start z)) ≡ Some s) × (n ≡ start + m) × (slice_index (drop start z) 0 ≡ 64 → slice_index z n ≢ 40)

-- a macro word, and the parenthesis directly behind it has the place n
abbrev pub IsMacroCall : Text → ℕ → Type 0
IsMacroCall z n = (start : ℕ) × (m : ℕ) × (s : Sign) × IsWord z start m × (reserved (take m (drop start z)) ≡ Some s) × (n ≡ start + m) × (slice_index (drop start z) 0 ≡ 64) × (slice_index z n ≡ 40)

-- an `@` that begins no macro word
abbrev pub IsNoMacro : Text → Type 0
IsNoMacro z = (m : ℕ) × (slice_index z 0 ≡ 64) × IsSpan (in_whole z) m × (reserved (take m z) ≡ None)

-- ---- signs

-- the longest sign at the front
abbrev pub IsSign : Text → Sign → ℕ → Type 0
IsSign z s n = (w : Text) × Contains signs (w, s) × (starts_with nat_eq z w ≡ true) × (n ≡ length w) × All (λ e. starts_with nat_eq z e.0 ≡ true → length e.0 ≤ n) signs

-- no piece of any class begins with the first byte
abbrev pub IsStray : Text → Type 0
IsStray z =
    let b = slice_index z 0 in
    (is_blank z ≡ false) × (b ≢ 35) × (is_ascii_digit b ≡ false) × (b ≢ 34) × (begins_word b ≡ false) × All (λ e. starts_with nat_eq z e.0 ≡ false) signs

-- ---- all

-- a token of this kind, n bytes long
abbrev pub IsToken : Text → TokenKind → ℕ → Type 0
IsToken z (kind.Number v) n = IsNumber z v n
IsToken z (kind.Name w) n = IsName z w n
IsToken z (kind.Text bs) n = IsString z bs n
IsToken z (kind.Sign s) n = ((s ≡ sign.BaseThreads) × IsBaseThreads z × (n ≡ 12)) ⊎ (IsKeyword z s n ⊎ IsSign z s n)

-- a piece of n bytes at the front: a token, or none
abbrev pub IsPiece : Text → Option TokenKind → ℕ → Type 0
IsPiece z None n = IsSkipped z n
IsPiece z (Some k) n = IsToken z k n

-- the first character that is wrong has the place n
abbrev pub IsBad : Text → ℕ → Type 0
IsBad z n = IsBadString z n ⊎ (IsMacroCall z n ⊎ ((n ≡ 0) × (IsNoMacro z ⊎ IsStray z)))

-- no piece stands at the front of this text, which begins at `at`, for this reason
abbrev pub IsRefusal : Text → ℕ → LexError → Type 0
IsRefusal z at (error.BadCharacter place) = (n : ℕ) × IsBad z n × (place ≡ at + n)
IsRefusal z at (error.OpenString place) = (IsOpenComment z ⊎ IsOpenString z) × (place ≡ at)
IsRefusal z at (error.NumberTooLarge place) = IsTooLarge z × (place ≡ at)
IsRefusal z at error.OutOfMemory = ⊥

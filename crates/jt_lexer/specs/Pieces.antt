-- What stands at the front of a text: a piece and its length in bytes, or why no piece stands there.
-- A text reads as 0 past its end. Lengths and places are in bytes.
use Rattle.std.specs.Prelude.{ℕ, suc, ◌+◌, ◌-◌, ◌*◌, ◌^◌, ◌≤◌, Bool, true, false, not, ◌&&◌, ◌||◌, if◌then◌else◌, ◌==◌, nat_lt, nat_eq, List, [], ◌∷◌, length, take, drop, slice_index, Option, Some, None, Result, Ok, Err, codes}
use Rattle.std.specs.Char.{is_ascii_digit, is_ascii_alphabetic, is_ascii_alphanumeric}
use Rattle.std.specs.List.{starts_with}
use Rattle.std.specs.Str.{bytes_eq}
use Rattle.jt_syntax.specs.declared.token.Sign.{Sign}
use Rattle.jt_syntax.specs.declared.token.Sign.TheVariants as sign
use Rattle.jt_lexer.specs.declared.piece.Shape.{Shape}
use Rattle.jt_lexer.specs.declared.piece.Shape.TheVariants as shape
use Rattle.jt_lexer.specs.declared.piece.Defect.{Defect}
use Rattle.jt_lexer.specs.declared.piece.Defect.TheVariants as defect
use Rattle.jt_lexer.specs.Words.{words, signs, of_threads, of_base}

abbrev pub Text : Type 0
Text = List ℕ

abbrev pub Piece : Type 0
Piece = Result (Shape × ℕ) Defect

-- ---- blanks and comments

-- a space, a tab, and a carriage return directly before a newline
abbrev pub is_blank : Text → Bool
is_blank z = slice_index z 0 == 32 || slice_index z 0 == 9 || (slice_index z 0 == 13 && slice_index z 1 == 10)

-- the length up to the newline
abbrev pub line_len : Text → ℕ
line_len [] = 0
line_len (b ∷ z) = if b == 10 then 0 else suc (line_len z)

abbrev pub opens_comment : ℕ → ℕ → Bool
opens_comment b next = b == 35 && next == 61

abbrev pub closes_comment : ℕ → ℕ → Bool
closes_comment b next = b == 61 && next == 35

-- The length up to and with the `=#` that closes, where `outer` more comments are open round it and `at` bytes
-- came before. The marks are taken from left to right and share no byte: `in_mark` where a mark's first byte came before.
abbrev pub comment_end : ℕ → Bool → ℕ → Text → Option ℕ
comment_end outer in_mark at [] = None
comment_end outer true at (b ∷ z) = comment_end outer false (at + 1) z
comment_end outer false at (b ∷ z) =
    if opens_comment b (slice_index z 0) then comment_end (outer + 1) true (at + 1) z
    else (if closes_comment b (slice_index z 0) then (if outer == 0 then Some (at + 2) else comment_end (outer - 1) true (at + 1) z)
    else comment_end outer false (at + 1) z)

abbrev pub comment_piece : Option ℕ → Piece
comment_piece None = Err defect.OpenString
comment_piece (Some n) = Ok (shape.Blank, n)

unfoldable pub comment : Text → Piece
comment z = if slice_index z 1 == 61 then comment_piece (comment_end 0 false 2 (drop 2 z)) else Ok (shape.Blank, line_len z)

-- ---- numbers

abbrev pub with_digit : ℕ → ℕ → ℕ
with_digit value b = value * 10 + (b - 48)

-- The number that goes on with this text, where digits of this value and length came before. A single `_` may
-- stand between two digits.
abbrev pub number_from : ℕ → ℕ → Text → Piece
number_from value at [] = Ok (shape.Number value, at)
number_from value at (b ∷ z) =
    if is_ascii_digit b then (if nat_lt (with_digit value b) (2 ^ 63) then number_from (with_digit value b) (at + 1) z else Err defect.NumberTooLarge)
    else (if b == 95 && is_ascii_digit (slice_index z 0) then number_from value (at + 1) z else Ok (shape.Number value, at))

-- ---- strings

abbrev pub is_escape : ℕ → Bool
is_escape b = b == 110 || b == 116 || b == 92 || b == 34 || b == 36

-- The string that goes on with this text, where so many bytes came before, the last of them an escaping backslash
-- where `escaped`.
abbrev pub string_from : Bool → ℕ → Text → Piece
string_from true at [] = Err (defect.BadCharacter (at - 1))
string_from false at [] = Err defect.OpenString
string_from true at (b ∷ z) = if is_escape b then string_from false (at + 1) z else Err (defect.BadCharacter (at - 1))
string_from false at (b ∷ z) =
    if b == 34 then Ok (shape.Text, at + 1)
    else (if b == 36 then Err (defect.BadCharacter at)
    else string_from (b == 92) (at + 1) z)

-- ---- words

abbrev pub begins_word : ℕ → Bool
begins_word b = is_ascii_alphabetic b || b == 95 || b == 64

abbrev pub continues_word : ℕ → Bool
continues_word b = is_ascii_alphanumeric b || b == 95

-- The length of a word's bytes: letters, digits, `_`, and `!` where no `=` follows.
abbrev pub word_len : Text → ℕ
word_len [] = 0
word_len (b ∷ z) = if continues_word b || (b == 33 && not (slice_index z 0 == 61)) then suc (word_len z) else 0

-- the length of a word, with the `@` of a macro word
unfoldable pub whole_len : Text → ℕ
whole_len z = if slice_index z 0 == 64 then suc (word_len (drop 1 z)) else word_len z

abbrev pub is_listed : List Text → Text → Bool
is_listed [] word = false
is_listed (w ∷ ws) word = bytes_eq word w || is_listed ws word

-- the word at the front is one of these
abbrev pub begins_with_one : List Text → Text → Bool
begins_with_one ws z = is_listed ws (take (whole_len z) z)

-- the word at the front is one that may stand behind `Threads.`
unfoldable pub is_of_threads : Text → Bool
is_of_threads z = begins_with_one of_threads z

-- the word at the front is one that may stand behind `Base.`
unfoldable pub is_of_base : Text → Bool
is_of_base z = begins_with_one of_base z

unfoldable pub is_base_threads_word : Text → Bool
is_base_threads_word z = starts_with nat_eq z (codes "Base.Threads.") && is_of_threads (drop 13 z)

unfoldable pub is_threads_word : Text → Bool
is_threads_word z = starts_with nat_eq z (codes "Threads.") && is_of_threads (drop 8 z)

unfoldable pub is_base_word : Text → Bool
is_base_word z = starts_with nat_eq z (codes "Base.") && is_of_base (drop 5 z)

-- the length of the prefix that the word at the front has
unfoldable pub prefix_len : Text → ℕ
prefix_len z = if is_base_threads_word z then 13 else (if is_threads_word z then 8 else (if is_base_word z then 5 else 0))

-- `Base.Threads` as a whole, with no dot behind
unfoldable pub is_base_threads : Text → Bool
is_base_threads z = starts_with nat_eq z (codes "Base.Threads") && whole_len (drop 5 z) == 7 && not (slice_index z 12 == 46)

abbrev pub lookup : List (Text × Sign) → Text → Option Sign
lookup [] word = None
lookup (w ∷ ws) word = if bytes_eq word w.0 then Some w.1 else lookup ws word

unfoldable pub reserved : Text → Option Sign
reserved = lookup words

-- a word without its prefix, in a text where it ends before `end` and begins at `start`
abbrev pub word_piece : Option Sign → Bool → ℕ → ℕ → Text → Piece
word_piece (Some s) is_macro start end z = if is_macro && slice_index z end == 40 then Err (defect.BadCharacter end) else Ok (shape.Sign s, end)
word_piece None is_macro start end z = if is_macro then Err (defect.BadCharacter start) else Ok (shape.Name start, end)

unfoldable pub word_at : Text → Piece
word_at z =
    if is_base_threads z then Ok (shape.Sign sign.BaseThreads, 12) else
    (let start = prefix_len z in
    let bare = drop start z in
    let n = whole_len bare in
    word_piece (reserved (take n bare)) (slice_index bare 0 == 64) start (start + n) z)

-- ---- signs

abbrev pub first_sign : List (Text × Sign) → Text → Piece
first_sign [] z = Err (defect.BadCharacter 0)
first_sign (s ∷ ss) z = if starts_with nat_eq z s.0 then Ok (shape.Sign s.1, length s.0) else first_sign ss z

-- no sign has an empty spelling
abbrev pub all_spelled : List (Text × Sign) → Bool
all_spelled [] = true
all_spelled (s ∷ ss) = nat_lt 0 (length s.0) && all_spelled ss

unfoldable pub sign_at : Text → Piece
sign_at z = first_sign signs z

-- ---- all

unfoldable pub piece : Text → Piece
piece z =
    let b = slice_index z 0 in
    if is_blank z then Ok (shape.Blank, 1)
    else (if b == 35 then comment z
    else (if is_ascii_digit b then number_from 0 0 z
    else (if b == 34 then string_from false 1 (drop 1 z)
    else (if begins_word b then word_at z
    else sign_at z))))

-- a defect's place lies within so many bytes
abbrev pub DefectsWithin : ℕ → Defect → Type 0
DefectsWithin n (defect.BadCharacter at) = at ≤ n
DefectsWithin n defect.OpenString = Unit {0}
DefectsWithin n defect.NumberTooLarge = Unit {0}

-- what is cut off a piece of this length lies within it
abbrev pub IsShapedWithin : Shape → ℕ → Type 0
IsShapedWithin (shape.Name start) n = start ≤ n
IsShapedWithin shape.Text n = 2 ≤ n
IsShapedWithin s n = Unit {0}

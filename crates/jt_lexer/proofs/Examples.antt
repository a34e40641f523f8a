-- Worked examples of what stands at a text's front, and of whole texts.
use Rattle.std.proofs.Common.{◌≡◌, ℕ, [], ◌∷◌, ◌++◌, Some, Ok, Err, None, true, false, codes, refl, arith}
use Rattle.std.specs.Fmt.{digits}
use Rattle.jt_syntax.specs.declared.operator.ArithmeticOperator.TheVariants as arithmetic
use Rattle.jt_syntax.specs.declared.operator.BinaryOperator.TheVariants as binary
use Rattle.jt_syntax.specs.declared.operator.ComparisonOperator.TheVariants as comparison
use Rattle.jt_syntax.specs.declared.token.Sign.{Sign}
use Rattle.jt_syntax.specs.declared.token.Sign.TheVariants as sign
use Rattle.jt_syntax.specs.declared.token.Token.{Token}
use Rattle.jt_syntax.specs.declared.token.TokenKind.TheVariants as kind
use Rattle.jt_lexer.specs.declared.error.LexError.TheVariants as error
use Rattle.jt_lexer.specs.declared.piece.Shape.TheVariants as shape
use Rattle.jt_lexer.specs.declared.piece.Defect.TheVariants as defect
use Rattle.jt_lexer.specs.Pieces.{piece, comment, whole_len, is_of_threads, is_of_base, is_base_threads_word, is_threads_word, is_base_word, prefix_len, is_base_threads, reserved, word_at, sign_at}
use Rattle.jt_lexer.specs.Lexer.{token, escape, lex}
use Rattle.jt_lexer.specs.Rules.{opening, closing, other, ReadsMarks, depth, IsNestedComment, in_number, value, IsNumber, plain, escaped, IsString, in_word, in_whole, IsPiece, IsRefusal}
use Rattle.jt_lexer.proofs.Classes.{piece_sound, refusal_sound}
use Rattle.jt_lexer.specs.Spelled.{is_word, IsSpelledName, spelled, placed_from}

abbrev at : Sign → ℕ → Token
at s place = token (kind.Sign s) place

-- ---- blanks and comments

blanks : lex (codes "\t 1") ≡ Ok (token (kind.Number 1) 2 ∷ at sign.Stop 3 ∷ [])
unfolding lex piece
blanks = refl

carriage_return : lex (13 ∷ 10 ∷ []) ≡ Ok (at sign.Newline 1 ∷ at sign.Stop 2 ∷ [])
unfolding lex piece sign_at
carriage_return = refl

carriage_return_alone : lex (49 ∷ 13 ∷ 49 ∷ []) ≡ Err (error.BadCharacter 1)
unfolding lex piece sign_at
carriage_return_alone = refl

carriage_return_last : lex (13 ∷ []) ≡ Err (error.BadCharacter 0)
unfolding lex piece sign_at
carriage_return_last = refl

-- the newline is no part of a comment
to_newline : piece (codes "# ab" ++ 10 ∷ []) ≡ Ok (shape.Blank, 4)
unfolding piece comment
to_newline = refl

nested : piece (codes "#= a #= b =# c =#x") ≡ Ok (shape.Blank, 17)
unfolding piece comment
nested = refl

unclosed : lex (codes "1 #= a #= b =#") ≡ Err (error.OpenString 2)
unfolding lex piece comment
unclosed = refl

-- two marks share no byte
shared_mark : piece (codes "#=#") ≡ Err defect.OpenString
unfolding piece comment
shared_mark = refl

marks_side_by_side : piece (codes "#==#") ≡ Ok (shape.Blank, 4)
unfolding piece comment
marks_side_by_side = refl

-- ---- numbers

parted : piece (codes "1_000x") ≡ Ok (shape.Number 1000, 5)
unfolding piece
parted = refl

two_underscores : piece (codes "1__0") ≡ Ok (shape.Number 1, 1)
unfolding piece
two_underscores = refl

last_underscore : piece (codes "1_") ≡ Ok (shape.Number 1, 1)
unfolding piece
last_underscore = refl

leading_zeros : piece (codes "007") ≡ Ok (shape.Number 7, 3)
unfolding piece
leading_zeros = refl

greatest : piece (codes "9223372036854775807") ≡ Ok (shape.Number 9223372036854775807, 19)
unfolding piece
greatest = refl

too_large : lex (codes "-9223372036854775808") ≡ Err (error.NumberTooLarge 1)
unfolding lex piece sign_at
too_large = refl

-- ---- words

mark_before_equals : lex (codes "a!=b!") ≡ Ok (token (kind.Name (codes "a")) 0 ∷ at (sign.Binary (binary.Comparison comparison.NotEqual)) 1 ∷ token (kind.Name (codes "b!")) 3 ∷ at sign.Stop 5 ∷ [])
unfolding lex piece word_at whole_len is_base_threads prefix_len is_base_threads_word is_threads_word is_base_word reserved sign_at
mark_before_equals = refl

keyword : piece (codes "while 1") ≡ Ok (shape.Sign sign.While, 5)
unfolding piece word_at whole_len is_base_threads prefix_len is_base_threads_word is_threads_word is_base_word reserved
keyword = refl

no_keyword : piece (codes "whiles 1") ≡ Ok (shape.Name 0, 6)
unfolding piece word_at whole_len is_base_threads prefix_len is_base_threads_word is_threads_word is_base_word reserved
no_keyword = refl

prefixed : lex (codes "Base.Event") ≡ Ok (token (kind.Name (codes "Event")) 0 ∷ at sign.Stop 10 ∷ [])
unfolding lex piece word_at whole_len is_base_threads prefix_len is_base_threads_word is_threads_word is_base_word is_of_threads is_of_base reserved
prefixed = refl

prefixed_macro : piece (codes "Base.Threads.@spawn 1") ≡ Ok (shape.Sign sign.Spawn, 19)
unfolding piece word_at whole_len is_base_threads prefix_len is_base_threads_word is_threads_word is_base_word is_of_threads is_of_base reserved
prefixed_macro = refl

base_threads : piece (codes "Base.Threads") ≡ Ok (shape.Sign sign.BaseThreads, 12)
unfolding piece word_at whole_len is_base_threads
base_threads = refl

-- the first dot, where the word behind the second isn't listed
unlisted : lex (codes "Base.Threads.Foo") ≡ Err (error.BadCharacter 4)
unfolding lex piece word_at whole_len is_base_threads prefix_len is_base_threads_word is_threads_word is_base_word is_of_threads is_of_base reserved sign_at
unlisted = refl

unlisted_macro : lex (codes "Threads.@sync") ≡ Err (error.BadCharacter 7)
unfolding lex piece word_at whole_len is_base_threads prefix_len is_base_threads_word is_threads_word is_base_word is_of_threads is_of_base reserved sign_at
unlisted_macro = refl

read_whole : lex (codes "@spawnx") ≡ Err (error.BadCharacter 0)
unfolding lex piece word_at whole_len is_base_threads prefix_len is_base_threads_word is_threads_word is_base_word reserved
read_whole = refl

macro_and_parenthesis : lex (codes "Threads.@spawn(") ≡ Err (error.BadCharacter 14)
unfolding lex piece word_at whole_len is_base_threads prefix_len is_base_threads_word is_threads_word is_base_word is_of_threads is_of_base reserved
macro_and_parenthesis = refl

-- ---- strings

-- "a\n$" with a backslash before the dollar
escapes : lex (34 ∷ 97 ∷ 92 ∷ 110 ∷ 92 ∷ 36 ∷ 34 ∷ []) ≡ Ok (token (kind.Text (97 ∷ 10 ∷ 36 ∷ [])) 0 ∷ at sign.Stop 7 ∷ [])
unfolding lex piece escape
escapes = refl

-- "a\q, which isn't closed either
wrong_escape : lex (34 ∷ 97 ∷ 92 ∷ 113 ∷ []) ≡ Err (error.BadCharacter 2)
unfolding lex piece
wrong_escape = refl

last_backslash : lex (34 ∷ 97 ∷ 92 ∷ []) ≡ Err (error.BadCharacter 2)
unfolding lex piece
last_backslash = refl

bare_dollar : lex (34 ∷ 36 ∷ 34 ∷ []) ≡ Err (error.BadCharacter 1)
unfolding lex piece
bare_dollar = refl

unclosed_string : lex (41 ∷ 34 ∷ 97 ∷ []) ≡ Err (error.OpenString 1)
unfolding lex piece sign_at
unclosed_string = refl

-- ---- signs

longest : piece (codes ">>>=") ≡ Ok (shape.Sign (sign.Binary (binary.Arithmetic arithmetic.ShiftRightZero)), 3)
unfolding piece sign_at
longest = refl

-- ÷= in UTF-8
of_two_bytes : piece (195 ∷ 183 ∷ 61 ∷ []) ≡ Ok (shape.Sign sign.DivideAssign, 3)
unfolding piece sign_at
of_two_bytes = refl

other_character : piece (195 ∷ 164 ∷ []) ≡ Err (defect.BadCharacter 0)
unfolding piece sign_at
other_character = refl

dot : lex (codes "a.b") ≡ Err (error.BadCharacter 1)
unfolding lex piece word_at whole_len is_base_threads prefix_len is_base_threads_word is_threads_word is_base_word reserved sign_at
dot = refl

-- ---- spelled tokens

-- x += 10
spelled_assignment : spelled (kind.Name (codes "x") ∷ kind.Sign sign.PlusAssign ∷ kind.Number 10 ∷ []) ≡ codes "x += 10 "
unfolding digits
spelled_assignment = refl

-- a quote, a newline and a backslash in a string
spelled_string : spelled (kind.Text (97 ∷ 34 ∷ 10 ∷ 92 ∷ []) ∷ []) ≡ 34 ∷ 97 ∷ 92 ∷ 34 ∷ 92 ∷ 110 ∷ 92 ∷ 92 ∷ 34 ∷ 32 ∷ []
spelled_string = refl

spelled_places : placed_from 0 (kind.Sign sign.Spawn ∷ kind.Sign sign.Open ∷ []) ≡ at sign.Spawn 0 ∷ at sign.Open 7 ∷ at sign.Stop 9 ∷ []
spelled_places = refl

plain_name : IsSpelledName (codes "notify")
unfolding reserved
plain_name = (refl, refl)

marked_name : IsSpelledName (codes "atomic_add!")
unfolding reserved
marked_name = (refl, refl)

no_name : reserved (codes "rand") ≡ Some sign.Rand
unfolding reserved
no_name = refl

no_word : is_word (codes "1x") ≡ false
no_word = refl

-- ---- the rules

digits_parted : value 0 (codes "1_000") ≡ 1000
digits_parted = refl

mark_between_digits : in_number (codes "1_0") 1 ≡ true
mark_between_digits = refl

two_marks : in_number (codes "1__0") 1 ≡ false
two_marks = refl

mark_at_end : in_number (codes "1_") 1 ≡ false
mark_at_end = refl

mark_in_word : in_word (codes "a!!=") 1 ≡ true
mark_in_word = refl

mark_no_word : in_word (codes "a!!=") 2 ≡ false
mark_no_word = refl

at_before_word : in_whole (codes "@x@y") 0 ≡ true
at_before_word = refl

at_within_word : in_whole (codes "@x@y") 2 ≡ false
at_within_word = refl

closed_as_opened : depth 0 (opening ∷ other 32 ∷ closing ∷ []) ≡ Some 0
closed_as_opened = refl

closed_too_often : depth 0 (closing ∷ opening ∷ []) ≡ None
closed_too_often = refl

-- the byte behind the first mark is no part of another one
marks_share_no_byte : ReadsMarks (opening ∷ other 35 ∷ []) (codes "#=#") []
marks_share_no_byte = (codes "#", refl, ([], refl, refl, refl, refl))

one_comment : IsNestedComment (codes "#= #==# =#x") 10
one_comment = (codes " #==# =#x", codes "x", other 32 ∷ opening ∷ closing ∷ other 32 ∷ [], refl, (_, refl, refl, refl, (_, refl, (_, refl, (_, refl, refl, refl, refl)))), refl, refl)

-- "a\"" and what it means
one_string : IsString (34 ∷ 97 ∷ 92 ∷ 34 ∷ 34 ∷ 59 ∷ []) (97 ∷ 34 ∷ []) 5
unfolding escape
one_string = (plain 97 ∷ escaped 34 ∷ [], 59 ∷ [], refl, ((λ e. absurd (omega (arith, e))), (λ e. absurd (omega (arith, e))), (λ e. absurd (omega (arith, e))), (refl, tt)), refl, refl)

one_number : IsNumber (codes "1_000x") 1000 5
one_number = piece_sound (codes "1_000x") (shape.Number 1000) 5 parted

one_keyword : IsPiece (codes "while 1") (Some (kind.Sign sign.While)) 5
one_keyword = piece_sound (codes "while 1") (shape.Sign sign.While) 5 keyword

one_stray : IsRefusal (195 ∷ 164 ∷ []) 7 (error.BadCharacter 7)
one_stray = refusal_sound (195 ∷ 164 ∷ []) 7 (defect.BadCharacter 0) other_character

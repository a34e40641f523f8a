-- A text has one list of tokens or one first refusal, and it is what the reader gives.
use Rattle.std.proofs.Common.{◌≡◌, ℕ, zero, suc, ◌+◌, ◌<◌, ◌≤◌, ◌⊎◌, inl, inr, List, [], ◌∷◌, ◌++◌, length, take, drop, Option, Some, None, Ok, Err, refl, sym, ap, subst, ◌∙◌, arith, append_assoc, append-nil, length-drop, length-append}
use Rattle.std.specs.Result.{is_ok}
use Rattle.std.proofs.lemmas.Bool.{false≢true}
use Rattle.jt_syntax.specs.declared.token.Sign.TheVariants as sign
use Rattle.jt_syntax.specs.declared.token.Token.{Token}
use Rattle.jt_syntax.specs.declared.token.TokenKind.{TokenKind}
use Rattle.jt_syntax.specs.declared.token.TokenKind.TheVariants as kind
use Rattle.jt_lexer.specs.declared.error.LexError.{LexError}
use Rattle.jt_lexer.specs.declared.error.LexError.TheVariants as error
use Rattle.jt_lexer.specs.declared.piece.Shape.{Shape}
use Rattle.jt_lexer.specs.declared.piece.Defect.{Defect}
use Rattle.jt_lexer.specs.Pieces.{Text, piece}
use Rattle.jt_lexer.specs.Lexer.{Lexed, token, token_kind, tokens_of, lex_error, put_before, lex_from, lex}
use Rattle.jt_lexer.specs.Rules.{IsPiece, IsRefusal}
use Rattle.jt_lexer.specs.Tokens.{Begins, IsTokensOf, RefusesAt, RefusesText}
use Rattle.jt_lexer.proofs.LexLemmas.{turn, before-append, nothing_before, refused_here, drop_twice}
use Rattle.jt_lexer.proofs.Classes.{piece_is, refusal_is, piece_sound, refusal_sound, piece_or_refusal}
use Rattle.jt_lexer.proofs.Lengths.{within}

abbrev pub Pieces : Type 0
Pieces = List (Option TokenKind × ℕ)

turn_of : (at : ℕ) (z : Text) (o : Option TokenKind) (n : ℕ) → IsPiece z o n → lex_from 0 at z ≡ put_before (tokens_of o at) (lex_from 0 (at + n) (drop n z))
turn_of at z o n h =
    let g = piece_is z o n h in
    let w = within z o n h in
    turn at z g.0 n g.1 w.0 w.1 ∙ ap (λ k. put_before (tokens_of k at) (lex_from 0 (at + n) (drop n z))) g.2

begun : (ps : Pieces) (at : ℕ) (z : Text) (ts : List Token) (end : ℕ) (rest : Text) → Begins ps at z ts end rest → lex_from 0 at z ≡ put_before ts (lex_from 0 end rest)
begun [] at z ts end rest h =
    nothing_before (lex_from 0 at z)
    ∙ (ap (λ us. put_before us (lex_from 0 at z)) (sym h.2)
    ∙ (ap (λ k. put_before ts (lex_from 0 k z)) (sym h.0) ∙ ap (λ y. put_before ts (lex_from 0 end y)) (sym h.1)))
begun (p ∷ ps) at z ts end rest h =
    let us = h.0 in
    let first = tokens_of p.0 at in
    turn_of at z p.0 p.1 h.1
    ∙ (ap (put_before first) (begun ps (at + p.1) (drop p.1 z) us end rest h.3)
    ∙ (before-append first us (lex_from 0 end rest) ∙ ap (λ vs. put_before vs (lex_from 0 end rest)) (sym h.2)))

-- the only list of tokens
pub tokens_read : (text : Text) (ts : List Token) → IsTokensOf text ts → lex text ≡ Ok ts
unfolding lex
tokens_read text ts h = begun h.0 0 text h.1 h.2 [] h.4 ∙ ap Ok (sym h.3)

-- the only refusal
pub refusal_read : (text : Text) (e : LexError) → RefusesAt text e → lex text ≡ Err e
unfolding lex
refusal_read text e h =
    let r = refusal_is h.3 h.2 e h.5 in
    begun h.0 0 text h.1 h.2 h.3 h.6 ∙ (ap (put_before h.1) (refused_here h.2 h.3 r.0 r.1 h.4) ∙ ap Err (sym r.2))

-- ---- each text has tokens or a refusal

abbrev Ends : ℕ → Text → Type 0
Ends at z = ((ps : Pieces) × (us : List Token) × (end : ℕ) × Begins ps at z us end []) ⊎ ((ps : Pieces) × (us : List Token) × (end : ℕ) × (rest : Text) × (e : LexError) × (0 < length rest) × IsRefusal rest end e × Begins ps at z us end rest)

one_more : (at : ℕ) (z : Text) (o : Option TokenKind) (n : ℕ) → IsPiece z o n → Ends (at + n) (drop n z) → Ends at z
one_more at z o n h (inl e) = inl ((o, n) ∷ e.0, tokens_of o at ++ e.1, e.2, (e.1, h, refl, e.3))
one_more at z o n h (inr e) = inr ((o, n) ∷ e.0, tokens_of o at ++ e.1, e.2, e.3, e.4, e.5, e.6, (e.1, h, refl, e.7))

ends : (fuel at : ℕ) (z : Text) → length z ≤ fuel → Ends at z
ends fuel at [] h = inl ([], [], at, (refl, refl, refl))
ends zero at (b ∷ z) h = absurd (omega (arith, h))
ends (suc fuel) at (b ∷ z) h = elim (piece_or_refusal (b ∷ z) at) [
  | inl p ↦
      let w = within (b ∷ z) p.0 p.1 p.2 in
      one_more at (b ∷ z) p.0 p.1 p.2 (ends fuel (at + p.1) (drop p.1 (b ∷ z)) (omega (arith, h, w.0, length-drop p.1 (b ∷ z))))
  | inr r ↦ inr ([], [], at, b ∷ z, r.0, omega arith, r.1, (refl, refl, refl))
]

pub tokens_or_refusal : (text : Text) → ((ts : List Token) × IsTokensOf text ts) ⊎ ((e : LexError) × RefusesAt text e)
tokens_or_refusal text = elim (ends (length text) 0 text (omega arith)) [
  | inl h ↦ inl (h.1 ++ token (kind.Sign sign.Stop) h.2 ∷ [], (h.0, h.1, h.2, refl, h.3))
  | inr h ↦ inr (h.4, (h.0, h.1, h.2, h.3, h.5, h.6, h.7))
]

abbrev tokens_or : List Token → Lexed → List Token
tokens_or ts (Ok us) = us
tokens_or ts (Err e) = ts

abbrev error_or : LexError → Lexed → LexError
error_or e (Ok us) = e
error_or e (Err f) = f

-- what the reader gives are tokens of the text, or its refusal
pub read_tokens : (text : Text) (ts : List Token) → lex text ≡ Ok ts → IsTokensOf text ts
read_tokens text ts e = elim (tokens_or_refusal text) [
  | inl h ↦ subst (IsTokensOf text) (ap (tokens_or ts) (sym (tokens_read text h.0 h.1) ∙ e)) h.1
  | inr h ↦ absurd (false≢true (ap is_ok (sym (refusal_read text h.0 h.1) ∙ e)))
]

pub read_refusal : (text : Text) (e : LexError) → lex text ≡ Err e → RefusesAt text e
read_refusal text e k = elim (tokens_or_refusal text) [
  | inl h ↦ absurd (false≢true (ap is_ok (sym k ∙ tokens_read text h.0 h.1)))
  | inr h ↦ subst (RefusesAt text) (ap (error_or e) (sym (refusal_read text h.0 h.1) ∙ k)) h.1
]

-- ---- a turn of the loop

further : (ps : Pieces) (at : ℕ) (z : Text) (ts : List Token) (end : ℕ) (rest : Text) (o : Option TokenKind) (n : ℕ) → Begins ps at z ts end rest → IsPiece rest o n → Begins (ps ++ (o, n) ∷ []) at z (ts ++ tokens_of o end) (end + n) (drop n rest)
further [] at z ts end rest o n h p = (
  [],
  subst (λ y. IsPiece y o n) h.1 p,
  ap (λ us. us ++ tokens_of o end) h.2 ∙ (ap (tokens_of o) h.0 ∙ sym (append-nil (tokens_of o at))),
  (ap (λ k. k + n) h.0, ap (drop n) h.1, refl),
)
further (q ∷ ps) at z ts end rest o n h p =
    let new = tokens_of o end in (
      h.0 ++ new,
      h.1,
      ap (λ us. us ++ new) h.2 ∙ append_assoc (tokens_of q.0 at) h.0 new,
      further ps (at + q.1) (drop q.1 z) h.0 end rest o n h.3 p,
    )

abbrev pub Found : ℕ → Text → List Token → Type 0
Found at text ts = (ps : Pieces) × Begins ps 0 text ts at (drop at text)

pub found_none : (text : Text) (ts : List Token) → ts ≡ [] → Found 0 text ts
found_none text ts e = ([], (refl, refl, e))

pub found_more : (text rest : Text) (at : ℕ) (ts new : List Token) (s : Shape) (n : ℕ) → Found at text ts → rest ≡ drop at text → piece rest ≡ Ok (s, n) → new ≡ ts ++ tokens_of (token_kind s (take n rest)) at → Found (at + n) text new
found_more text rest at ts new s n h r e k =
    let o = token_kind s (take n rest) in
    let ps = h.0 ++ (o, n) ∷ [] in
    let p : IsPiece (drop at text) o n = subst (λ y. IsPiece y o n) r (piece_sound rest s n e) in
    let g = further h.0 0 text ts at (drop at text) o n h.1 p in
    (ps, subst (λ us. Begins ps 0 text us (at + n) (drop (at + n) text)) (sym k) (subst (Begins ps 0 text (ts ++ tokens_of o at) (at + n)) (drop_twice at n text) g))

refuses : (text : Text) (e : LexError) → RefusesAt text e → RefusesText text e
refuses text (error.BadCharacter n) h = h
refuses text (error.OpenString n) h = h
refuses text (error.NumberTooLarge n) h = h
refuses text error.OutOfMemory h = tt

pub found_defect : (text bytes rest : Text) (at : ℕ) (ts : List Token) (f : Defect) (e : LexError) → bytes ≡ text → Found at bytes ts → rest ≡ drop at bytes → at < length bytes → piece rest ≡ Err f → e ≡ lex_error f at → RefusesText text e
found_defect text bytes rest at ts f e b h r more k l =
    let left : 0 < length (drop at bytes) = omega (arith, length-drop at bytes, more) in
    let why : IsRefusal (drop at bytes) at e = subst (IsRefusal (drop at bytes) at) (sym l) (subst (λ y. IsRefusal y at (lex_error f at)) r (refusal_sound rest at f k)) in
    subst (λ y. RefusesText y e) b (refuses bytes e (h.0, ts, at, drop at bytes, left, why, h.1))

-- ---- pieces fill the text, and there are no more tokens than bytes

at_most_one : (o : Option TokenKind) (at : ℕ) → length (tokens_of o at) ≤ 1
at_most_one None at = omega arith
at_most_one (Some k) at = omega arith

pub measured : (ps : Pieces) (at : ℕ) (z : Text) (ts : List Token) (end : ℕ) (rest : Text) → Begins ps at z ts end rest → (end + length rest ≡ at + length z) × (length ts + length rest ≤ length z)
measured [] at z ts end rest h =
    let same : length rest ≡ length z = ap length h.1 in
    let none : length ts ≡ 0 = ap length h.2 in
    (omega (arith, h.0, same), omega (arith, same, none))
measured (p ∷ ps) at z ts end rest h =
    let m = measured ps (at + p.1) (drop p.1 z) h.0 end rest h.3 in
    let first = tokens_of p.0 at in
    let one : length first ≤ 1 = at_most_one p.0 at in
    let all : length ts ≡ length first + length h.0 = ap length h.2 ∙ length-append first h.0 in
    let w = within z p.0 p.1 h.1 in
    (omega (arith, m.0, length-drop p.1 z, w.0, w.1), omega (arith, m.1, length-drop p.1 z, all, one, w.0, w.1))

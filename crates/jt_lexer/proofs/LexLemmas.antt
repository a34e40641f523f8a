-- What a turn of the lexer's loop keeps.
use Rattle.std.proofs.Common.{◌≡◌, ℕ, zero, suc, ◌+◌, ◌-◌, ◌<◌, ◌≤◌, List, [], ◌∷◌, ◌++◌, length, take, drop, Result, Ok, Err, refl, sym, ap, ◌∙◌, arith, append_assoc, subst, length-drop, Bool, true, false, nat_eq, get_or, drop-cons, add-one}
use Rattle.std.proofs.lemmas.Bool.{eqb-true}
use Rattle.std.proofs.lemmas.List.{drop_all}
use Rattle.jt_syntax.specs.declared.token.Sign.TheVariants as sign
use Rattle.jt_syntax.specs.declared.token.Token.{Token}
use Rattle.jt_syntax.specs.declared.token.TokenKind.TheVariants as kind
use Rattle.jt_lexer.specs.declared.error.LexError.{LexError}
use Rattle.jt_lexer.specs.declared.error.LexError.TheVariants as error
use Rattle.jt_lexer.specs.declared.piece.Shape.{Shape}
use Rattle.jt_lexer.specs.declared.piece.Defect.{Defect}
use Rattle.jt_lexer.specs.Pieces.{Text, piece, opens_comment, closes_comment, comment_end}
use Rattle.jt_lexer.specs.Lexer.{Lexed, token, token_kind, tokens_of, lex_error, put_before, followed, lex_from, lex, LexesTo}

left_over : (n at : ℕ) (z : Text) → n ≤ length z → lex_from n at z ≡ lex_from 0 (at + n) (drop n z)
left_over zero at z h = let e : at ≡ at + 0 = omega arith in ap (λ k. lex_from 0 k z) e
left_over (suc n) at [] h = absurd (omega (arith, h))
left_over (suc n) at (b ∷ z) h =
    let e : at + 1 + n ≡ at + suc n = omega arith in
    let short : n ≤ length z = omega (arith, h) in
    left_over n (at + 1) z short ∙ ap (λ k. lex_from 0 k (drop n z)) e

behind_first : (n b : ℕ) (z : Text) → 1 ≤ n → drop (n - 1) z ≡ drop n (b ∷ z)
behind_first zero b z h = absurd (omega (arith, h))
behind_first (suc n) b z h = let e : suc n - 1 ≡ n = omega arith in ap (λ k. drop k z) e

pub turn : (at : ℕ) (z : Text) (s : Shape) (n : ℕ) → piece z ≡ Ok (s, n) → 1 ≤ n → n ≤ length z → lex_from 0 at z ≡ put_before (tokens_of (token_kind s (take n z)) at) (lex_from 0 (at + n) (drop n z))
turn at [] s n e low high = absurd (omega (arith, low, high))
turn at (b ∷ z) s n e low high =
    let short : n - 1 ≤ length z = omega (arith, high) in
    let place : at + 1 + (n - 1) ≡ at + n = omega (arith, low) in
    ap (λ o. followed o at (b ∷ z) (λ k. lex_from (k - 1) (at + 1) z)) e
    ∙ ap (put_before (tokens_of (token_kind s (take n (b ∷ z))) at)) (left_over (n - 1) (at + 1) z short ∙ (ap (λ k. lex_from 0 k (drop (n - 1) z)) place ∙ ap (lex_from 0 (at + n)) (behind_first n b z low)))

pub before-append : (ts us : List Token) (o : Lexed) → put_before ts (put_before us o) ≡ put_before (ts ++ us) o
before-append ts us (Ok vs) = ap Ok (sym (append_assoc ts us vs))
before-append ts us (Err e) = refl

drop_nothing : (n : ℕ) → drop {A = ℕ} n [] ≡ []
drop_nothing zero = refl
drop_nothing (suc n) = refl

pub drop_twice : (at n : ℕ) (z : Text) → drop n (drop at z) ≡ drop (at + n) z
drop_twice zero n z = let e : n ≡ 0 + n = omega arith in ap (λ k. drop k z) e
drop_twice (suc at) n [] = drop_nothing n ∙ sym (drop_nothing (suc at + n))
drop_twice (suc at) n (b ∷ z) = let e : suc (at + n) ≡ suc at + n = omega arith in drop_twice at n z ∙ ap (λ k. drop k (b ∷ z)) e

goes_on : (o : Lexed) (found new : List Token) (text : Text) (at : ℕ) (s : Shape) (n : ℕ) → o ≡ put_before found (lex_from 0 at (drop at text)) → piece (drop at text) ≡ Ok (s, n) → 1 ≤ n → n ≤ length (drop at text)
    → new ≡ found ++ tokens_of (token_kind s (take n (drop at text))) at → o ≡ put_before new (lex_from 0 (at + n) (drop (at + n) text))
goes_on o found new text at s n inv e low high k =
    inv ∙ (ap (put_before found) (turn at (drop at text) s n e low high)
    ∙ (before-append found (tokens_of (token_kind s (take n (drop at text))) at) (lex_from 0 (at + n) (drop n (drop at text)))
    ∙ (ap (λ ts. put_before ts (lex_from 0 (at + n) (drop n (drop at text)))) (sym k)
    ∙ ap (λ z. put_before new (lex_from 0 (at + n) z)) (drop_twice at n text))))

pub goes : (o : Lexed) (found new : List Token) (text rest : Text) (at : ℕ) (s : Shape) (n : ℕ) → o ≡ put_before found (lex_from 0 at (drop at text)) → rest ≡ drop at text → piece rest ≡ Ok (s, n) → 1 ≤ n → n ≤ length rest
    → new ≡ found ++ tokens_of (token_kind s (take n rest)) at → o ≡ put_before new (lex_from 0 (at + n) (drop (at + n) text))
goes o found new text rest at s n inv r e low high k =
    let high : n ≤ length (drop at text) = subst (λ z. n ≤ length z) r high in
    goes_on o found new text at s n inv (ap piece (sym r) ∙ e) low high (k ∙ ap (λ z. found ++ tokens_of (token_kind s (take n z)) at) r)

pub stays : (text rest : Text) (at n : ℕ) → rest ≡ drop at text → at ≤ length text → n ≤ length rest → at + n ≤ length text
stays text rest at n r h k =
    let high : n ≤ length (drop at text) = subst (λ z. n ≤ length z) r k in
    omega (arith, length-drop at text, h, high)

pub refused_here : (at : ℕ) (z : Text) (f : Defect) → piece z ≡ Err f → 0 < length z → lex_from 0 at z ≡ Err (lex_error f at)
refused_here at [] f e h = absurd (omega (arith, h))
refused_here at (b ∷ z) f e h = ap (λ o. followed o at (b ∷ z) (λ k. lex_from (k - 1) (at + 1) z)) e

pub refused : (o : Lexed) (found : List Token) (text rest : Text) (at : ℕ) (f : Defect) → o ≡ put_before found (lex_from 0 at (drop at text)) → rest ≡ drop at text → piece rest ≡ Err f → at < length text → o ≡ Err (lex_error f at)
refused o found text rest at f inv r e h =
    let more : 0 < length (drop at text) = omega (arith, length-drop at text, h) in
    inv ∙ ap (put_before found) (refused_here at (drop at text) f (ap piece (sym r) ∙ e) more)

pub ends : (o : Lexed) (found : List Token) (text : Text) (at : ℕ) → o ≡ put_before found (lex_from 0 at (drop at text)) → length text ≤ at → o ≡ Ok (found ++ token (kind.Sign sign.Stop) at ∷ [])
ends o found text at inv h = inv ∙ ap (λ z. put_before found (lex_from 0 at z)) (drop_all at text h)

pub gives_refusal : {A B : Type 0} (view : B → A) (o : Result A LexError) (e : LexError) → o ≡ Err e → LexesTo view o (Err e)
gives_refusal view o (error.BadCharacter n) h = h
gives_refusal view o (error.OpenString n) h = h
gives_refusal view o (error.NumberTooLarge n) h = h
gives_refusal view o error.OutOfMemory h = tt

pub nothing_before : (o : Lexed) → o ≡ put_before [] o
nothing_before (Ok ts) = refl
nothing_before (Err e) = refl

pub begins : (text bytes : Text) (ts : List Token) → ts ≡ [] → bytes ≡ text → lex text ≡ put_before ts (lex_from 0 0 bytes)
unfolding lex
begins text bytes ts e k = nothing_before (lex_from 0 0 text) ∙ (ap (λ us. put_before us (lex_from 0 0 text)) (sym e) ∙ ap (λ z. put_before ts (lex_from 0 0 z)) (sym k))

-- ---- a turn of the loop over a comment's bytes

cons_at : (z : Text) (i : ℕ) → i < length z → drop i z ≡ get_or z i 0 ∷ drop (i + 1) z
cons_at z i h = drop-cons z i 0 h ∙ ap (λ k. get_or z i 0 ∷ drop k z) (sym (add-one i))

first_of_rest : (z : Text) (i : ℕ) → get_or (drop i z) 0 0 ≡ get_or z i 0
first_of_rest z zero = refl
first_of_rest [] (suc i) = refl
first_of_rest (b ∷ z) (suc i) = first_of_rest z i

pub mark_goes : (outer end i : ℕ) (z : Text) → i < length z → comment_end outer true end (drop i z) ≡ comment_end outer false (end + 1) (drop (i + 1) z)
mark_goes outer end i z h = ap (comment_end outer true end) (cons_at z i h)

pub open_goes : (outer end i : ℕ) (z : Text) → i < length z → opens_comment (get_or z i 0) (get_or z (i + 1) 0) ≡ true → comment_end outer false end (drop i z) ≡ comment_end (outer + 1) true (end + 1) (drop (i + 1) z)
open_goes outer end i z h opened =
    let k : opens_comment (get_or z i 0) (get_or (drop (i + 1) z) 0 0) ≡ true = ap (opens_comment (get_or z i 0)) (first_of_rest z (i + 1)) ∙ opened in
    ap (comment_end outer false end) (cons_at z i h) ∙ rw k refl

not_true : (b : Bool) → (b ≡ true → ⊥) → b ≡ false
not_true true h = absurd (h refl)
not_true false h = refl

pub close_goes : (outer end i : ℕ) (z : Text) → i < length z → opens_comment (get_or z i 0) (get_or z (i + 1) 0) ≡ false → closes_comment (get_or z i 0) (get_or z (i + 1) 0) ≡ true → (outer ≡ 0 → ⊥)
    → comment_end outer false end (drop i z) ≡ comment_end (outer - 1) true (end + 1) (drop (i + 1) z)
close_goes outer end i z h unopened comment_piece inner =
    let k : opens_comment (get_or z i 0) (get_or (drop (i + 1) z) 0 0) ≡ false = ap (opens_comment (get_or z i 0)) (first_of_rest z (i + 1)) ∙ unopened in
    let l : closes_comment (get_or z i 0) (get_or (drop (i + 1) z) 0 0) ≡ true = ap (closes_comment (get_or z i 0)) (first_of_rest z (i + 1)) ∙ comment_piece in
    let m : nat_eq outer 0 ≡ false = not_true (nat_eq outer 0) (λ e. inner (eqb-true outer 0 e)) in
    ap (comment_end outer false end) (cons_at z i h) ∙ rw (k, l, m) refl

pub other_goes : (outer end i : ℕ) (z : Text) → i < length z → opens_comment (get_or z i 0) (get_or z (i + 1) 0) ≡ false → closes_comment (get_or z i 0) (get_or z (i + 1) 0) ≡ false
    → comment_end outer false end (drop i z) ≡ comment_end outer false (end + 1) (drop (i + 1) z)
other_goes outer end i z h unopened unclosed =
    let k : opens_comment (get_or z i 0) (get_or (drop (i + 1) z) 0 0) ≡ false = ap (opens_comment (get_or z i 0)) (first_of_rest z (i + 1)) ∙ unopened in
    let l : closes_comment (get_or z i 0) (get_or (drop (i + 1) z) 0 0) ≡ false = ap (closes_comment (get_or z i 0)) (first_of_rest z (i + 1)) ∙ unclosed in
    ap (comment_end outer false end) (cons_at z i h) ∙ rw (k, l) refl

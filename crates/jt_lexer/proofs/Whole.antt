-- The end token stands at a text's end alone.
use Rattle.std.proofs.Common.{◌≡◌, ℕ, zero, suc, ◌+◌, ◌<◌, ◌≤◌, inl, inr, List, [], ◌∷◌, ◌++◌, length, take, drop, Option, Some, None, sym, ap, subst, ◌∙◌, arith}
use Rattle.std.specs.Prelude.{slice_index_or}
use Rattle.std.specs.Str.{bytes_eq}
use Rattle.std.proofs.lemmas.Bool.{cond_both}
use Rattle.std.proofs.lemmas.List.{drop_all}
use Rattle.jt_syntax.specs.declared.token.Sign.{Sign}
use Rattle.jt_syntax.specs.declared.token.Sign.TheVariants as sign
use Rattle.jt_syntax.specs.declared.token.Token.{Token}
use Rattle.jt_syntax.specs.declared.token.TokenKind.{TokenKind}
use Rattle.jt_syntax.specs.declared.token.TokenKind.TheVariants as kind
use Rattle.jt_lexer.specs.Words.{words, signs}
use Rattle.jt_lexer.specs.Pieces.{Text, lookup, reserved}
use Rattle.jt_lexer.specs.Lexer.{token, tokens_of}
use Rattle.jt_lexer.specs.Rules.{IsToken, IsPiece}
use Rattle.jt_lexer.specs.Tokens.{Begins, IsTokensOf, IsNoStop, NoStop, IsWhole}
use Rattle.jt_lexer.proofs.TokenLaws.{Pieces, Found, measured}

abbrev StoplessSign : Option Sign → Type 0
StoplessSign (Some s) = IsNoStop (kind.Sign s)
StoplessSign None = Unit {0}

abbrev StoplessTable : List (Text × Sign) → Type 0
StoplessTable [] = Unit {0}
StoplessTable (s ∷ ss) = IsNoStop (kind.Sign s.1) × StoplessTable ss

of_words : StoplessTable words
of_words = (tt, (tt, (tt, (tt, (tt, (tt, (tt, (tt, (tt, (tt, (tt, (tt, (tt, (tt, (tt, (tt, (tt, (tt, (tt, (tt, (tt, (tt, (tt, (tt, (tt, (tt, (tt, (tt, (tt, (tt, (tt, (tt, (tt, (tt, (tt, (tt, (tt, (tt, (tt, (tt, (tt, tt)))))))))))))))))))))))))))))))))))))))))

of_signs : StoplessTable signs
of_signs = (tt, (tt, (tt, (tt, (tt, (tt, (tt, (tt, (tt, (tt, (tt, (tt, (tt, (tt, (tt, (tt, (tt, (tt, (tt, (tt, (tt, (tt, (tt, (tt, (tt, (tt, (tt, (tt, (tt, (tt, (tt, (tt, (tt, (tt, (tt, (tt, (tt, (tt, (tt, (tt, (tt, (tt, (tt, tt)))))))))))))))))))))))))))))))))))))))))))

of_lookup : (ws : List (Text × Sign)) (w : Text) → StoplessTable ws → StoplessSign (lookup ws w)
of_lookup [] w h = tt
of_lookup (x ∷ ws) w h = cond_both (bytes_eq w x.0) _ _ StoplessSign (λ _. h.0) (λ _. of_lookup ws w h.1)

of_reserved : (w : Text) → StoplessSign (reserved w)
unfolding reserved
of_reserved w = of_lookup words w of_words

of_entry : (ss : List (Text × Sign)) (e : Text × Sign) (k : ℕ) → StoplessTable ss → k < length ss → slice_index_or ss k e ≡ e → IsNoStop (kind.Sign e.1)
of_entry [] e k h l i = absurd (omega (arith, l))
of_entry (x ∷ ss) e zero h l i = subst (λ y. IsNoStop (kind.Sign y.1)) i h.0
of_entry (x ∷ ss) e (suc k) h l i = of_entry ss e k h.1 (omega (arith, l)) i

of_token : (z : Text) (k : TokenKind) (n : ℕ) → IsToken z k n → IsNoStop k
of_token z (kind.Number v) n h = tt
of_token z (kind.Name w) n h = tt
of_token z (kind.Text bs) n h = tt
of_token z (kind.Sign s) n (inl h) = subst (λ y. IsNoStop (kind.Sign y)) (sym h.0) tt
of_token z (kind.Sign s) n (inr (inl h)) = subst StoplessSign h.3 (of_reserved (take h.1 (drop h.0 z)))
of_token z (kind.Sign s) n (inr (inr h)) = of_entry signs (h.0, s) h.1.0 of_signs h.1.1 h.1.2

of_piece : (z : Text) (o : Option TokenKind) (n at : ℕ) (us : List Token) → IsPiece z o n → NoStop us → NoStop (tokens_of o at ++ us)
of_piece z None n at us h k = k
of_piece z (Some t) n at us h k = (of_token z t n h, k)

begun_stopless : (ps : Pieces) (at : ℕ) (z : Text) (ts : List Token) (end : ℕ) (rest : Text) → Begins ps at z ts end rest → NoStop ts
begun_stopless [] at z ts end rest h = subst NoStop (sym h.2) tt
begun_stopless (p ∷ ps) at z ts end rest h = subst NoStop (sym h.2) (of_piece z p.0 p.1 at h.0 h.1 (begun_stopless ps (at + p.1) (drop p.1 z) h.0 end rest h.3))

-- Tokens end with the end token, which stands nowhere else and at the text's length, and there are no more others than
-- bytes.
pub whole : (text : Text) (ts : List Token) → IsTokensOf text ts → IsWhole text ts
whole text ts h =
    let m = measured h.0 0 text h.1 h.2 [] h.4 in
    let last : h.2 ≡ length text = omega (arith, m.0) in
    (h.1, h.3 ∙ ap (λ k. h.1 ++ token (kind.Sign sign.Stop) k ∷ []) last, omega (arith, m.1), begun_stopless h.0 0 text h.1 h.2 [] h.4)

-- of what was found up to the text's end
pub found_whole : (text bytes : Text) (at : ℕ) (ts new : List Token) → bytes ≡ text → Found at bytes ts → length bytes ≤ at → new ≡ ts ++ token (kind.Sign sign.Stop) at ∷ [] → IsWhole text new
found_whole text bytes at ts new b h done e =
    subst (λ y. IsWhole y new) b (whole bytes new (h.0, ts, at, e, subst (λ y. Begins h.0 0 bytes ts at y) (drop_all at bytes done) h.1))

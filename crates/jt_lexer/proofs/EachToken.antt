-- What the rules say of each token, and of what is left behind each piece, holds of all tokens of a text.
use Rattle.std.proofs.Common.{ℕ, ◌+◌, List, [], ◌∷◌, ◌++◌, drop, Option, Some, None, sym, subst}
use Rattle.jt_syntax.specs.declared.token.Token.{Token}
use Rattle.jt_syntax.specs.declared.token.TokenKind.{TokenKind}
use Rattle.jt_lexer.specs.Pieces.{Text}
use Rattle.jt_lexer.specs.Lexer.{token, tokens_of}
use Rattle.jt_lexer.specs.Rules.{IsToken, IsPiece}
use Rattle.jt_lexer.specs.Tokens.{Begins, IsTokensOf}
use Rattle.jt_lexer.specs.Spelled.{EachKind, kinds, stop}
use Rattle.jt_lexer.proofs.TokenLaws.{Pieces}

abbrev EachIs : (TokenKind → Type 0) → List Token → Type 0
EachIs P ts = EachKind P (kinds ts)

of_piece : (P : TokenKind → Type 0) (z : Text) (o : Option TokenKind) (n at : ℕ) (us : List Token) → ((k : TokenKind) → IsToken z k n → P k) → IsPiece z o n → EachIs P us → EachIs P (tokens_of o at ++ us)
of_piece P z None n at us all h k = k
of_piece P z (Some t) n at us all h k = (all t h, k)

with_stop : (P : TokenKind → Type 0) → P stop → (ts : List Token) (at : ℕ) → EachIs P ts → EachIs P (ts ++ token stop at ∷ [])
with_stop P last [] at h = (last, tt)
with_stop P last (t ∷ ts) at h = (h.0, with_stop P last ts at h.1)

module _ (P : TokenKind → Type 0) (Q : Text → Type 0) (holds : (z : Text) (k : TokenKind) (n : ℕ) → IsToken z k n → Q z → P k) (kept : (z : Text) (o : Option TokenKind) (n : ℕ) → IsPiece z o n → Q z → Q (drop n z)) where
  of_begun : (ps : Pieces) (at : ℕ) (z : Text) (ts : List Token) (end : ℕ) (rest : Text) → Begins ps at z ts end rest → Q z → EachIs P ts
  of_begun [] at z ts end rest h q = subst (EachIs P) (sym h.2) tt
  of_begun (p ∷ ps) at z ts end rest h q = subst (EachIs P) (sym h.2) (of_piece P z p.0 p.1 at h.0 (λ k t. holds z k p.1 t q) h.1 (of_begun ps (at + p.1) (drop p.1 z) h.0 end rest h.3 (kept z p.0 p.1 h.1 q)))

  pub each_token : P stop → (text : Text) (ts : List Token) → Q text → IsTokensOf text ts → EachKind P (kinds ts)
  each_token last text ts q h = subst (EachIs P) (sym h.3) (with_stop P last h.1 h.2 (of_begun h.0 0 text h.1 h.2 [] h.4 q))

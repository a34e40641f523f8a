-- The text that is printed for a script reads as that script, its places apart.
use Rattle.std.proofs.Common.{◌≡◌, ℕ, Bool, true, false, List, [], ◌∷◌, cond, refl, sym, subst, codes}
use Rattle.jt_syntax.specs.Tree.{TopTree}
use Rattle.jt_syntax.specs.declared.token.Sign.{Sign}
use Rattle.jt_syntax.specs.declared.token.Sign.TheVariants as sign
use Rattle.jt_syntax.specs.declared.token.Token.{Token}
use Rattle.jt_syntax.specs.declared.token.TokenKind.{TokenKind}
use Rattle.jt_syntax.specs.declared.token.TokenKind.TheVariants as kind
use Rattle.jt_lexer.specs.Pieces.{Text, reserved}
use Rattle.jt_lexer.specs.Tokens.{IsTokensOf}
use Rattle.jt_lexer.specs.Spelled.{spelled, placed_from, HasSpelling, IsPrintable, ArePrintable, IsTextual, AreTextual, IsSpelledName}
use Rattle.jt_lexer.specs.Spelled as lexer
use Rattle.jt_lexer.proofs.PrintableTokens.{tokens_are_printable}
use Rattle.jt_lexer.proofs.TextTokens.{tokens_are_textual}
use Rattle.jt_lexer.proofs.SpelledTexts.{spelled_text}
use Rattle.jt_lexer.proofs.SpelledLaws.{spelled_tokens, tokens_of_spelled}
use Rattle.jt_grammar.specs.Joined.{State, next_state, drops, joined, joined_from}
use Rattle.jt_grammar.specs.Printed.{script_kinds}
use Rattle.jt_grammar.proofs.Printing.{Each, IsPrinted, HasContent, Allowed, Allows, script_kinds-keep}
use Rattle.jt_grammar.proofs.Again.{script_again}
use Rattle.jt_printer.specs.Again.{WasRead, IsSameScript, ReadsAs}

-- a kind whose spelling reads as it, and is a text in UTF-8
abbrev IsSpelled : TokenKind → Type 0
IsSpelled k = IsPrintable k × IsTextual k

signs_spelled : (s : Sign) → IsPrinted s → IsSpelled (kind.Sign s)
signs_spelled sign.Reserved p = absurd p
signs_spelled sign.Newline p = absurd p
signs_spelled sign.Stop p = absurd p
signs_spelled s p = (tt, tt)

letters_spelled : (w : Text) → IsSpelledName w → IsSpelled (kind.Name w)
letters_spelled w h = (h, tt)

spelled_allows : Allows IsSpelled
unfolding reserved
spelled_allows = record {
  signs = signs_spelled;
  notify = letters_spelled (codes "notify") (refl, refl);
  all = letters_spelled (codes "all") (refl, refl);
  default = letters_spelled (codes "default") (refl, refl);
  interactive = letters_spelled (codes "interactive") (refl, refl);
  static = letters_spelled (codes "static") (refl, refl);
  dynamic = letters_spelled (codes "dynamic") (refl, refl);
}

content_spelled : (k : TokenKind) → (HasSpelling k → IsPrintable k) → IsTextual k → HasContent k → IsSpelled k
content_spelled (kind.Sign s) f u h = absurd h
content_spelled (kind.Number n) f u h = (f tt, u)
content_spelled (kind.Name n) f u h = (f tt, u)
content_spelled (kind.Text t) f u h = (f tt, u)

tokens_spelled : (ts : List Token) → lexer.EachKind (λ k. HasSpelling k → IsPrintable k) (lexer.kinds ts) → AreTextual (lexer.kinds ts) → Allowed IsSpelled ts
tokens_spelled [] a b = tt
tokens_spelled (t ∷ ts) a b = (content_spelled t.kind a.0 b.0, tokens_spelled ts a.1 b.1)

either_allowed : (P : TokenKind → Type 0) (b : Bool) (u v : List Token) → Allowed P u → Allowed P v → Allowed P (cond b u v)
either_allowed P true u v a b = a
either_allowed P false u v a b = b

joined_allowed : (P : TokenKind → Type 0) (s : State) (ts : List Token) → Allowed P ts → Allowed P (joined_from s ts)
joined_allowed P s [] a = tt
joined_allowed P s (t ∷ ts) a = either_allowed P (drops s t.kind) (joined_from s ts) (t ∷ joined_from (next_state s t.kind) ts) (joined_allowed P s ts a.1) (a.0, joined_allowed P (next_state s t.kind) ts a.1)

are_printable : (ks : List TokenKind) → Each IsSpelled ks → ArePrintable ks
are_printable [] a = tt
are_printable (k ∷ ks) a = (a.0.0, are_printable ks a.1)

are_textual : (ks : List TokenKind) → Each IsSpelled ks → AreTextual ks
are_textual [] a = tt
are_textual (k ∷ ks) a = (a.0.1, are_textual ks a.1)

pub spelled_reads : (tops : List TopTree) (d : ℕ) → WasRead d tops → ReadsAs d tops (spelled (script_kinds tops))
spelled_reads tops d r =
    let text = r.0 in
    let ts = r.1 in
    let allowed = joined_allowed IsSpelled ([], false) ts (tokens_spelled ts (tokens_are_printable text ts r.3) (tokens_are_textual text ts r.2 r.3)) in
    let kept = script_kinds-keep IsSpelled spelled_allows tops (joined ts) r.4.0 allowed in
    let printable = are_printable (script_kinds tops) kept in
    let same : (us : List Token) → IsTokensOf (spelled (script_kinds tops)) us → IsSameScript d tops us = λ us of. let x = script_again d tops ts us r.4.0 r.4.1 (tokens_of_spelled (script_kinds tops) us printable of) in (x.0, (x.1, x.2), x.3) in
    (spelled_text (script_kinds tops) printable (are_textual (script_kinds tops) kept), (placed_from 0 (script_kinds tops), spelled_tokens (script_kinds tops) printable), same)

pub text_reads : (tops : List TopTree) (text : Text) → text ≡ spelled (script_kinds tops) → (d : ℕ) → WasRead d tops → ReadsAs d tops text
text_reads tops text e d r = subst (ReadsAs d tops) (sym e) (spelled_reads tops d r)

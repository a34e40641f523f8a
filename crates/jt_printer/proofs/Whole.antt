-- The tokens of a text end with the end token, are few, and don't stand beside a refusal.
use Rattle.std.proofs.Common.{◌≡◌, ℕ, ◌+◌, ◌≤◌, List, [], ◌∷◌, length, Result, Ok, Err, IfOk, IfErr, refl, sym, ap, subst, ◌∙◌, arith, length-append}
use Rattle.jt_base.specs.Limits.{most_script, most_open}
use Rattle.jt_grammar.proofs.OneRefusal.{not_unexpected, not_too_deep}
use Rattle.jt_grammar.specs.Grammar.{token, NoStop as HasNoStop, IsStop, EndsWithStop}
use Rattle.jt_lexer.proofs.TokenLaws.{tokens_read, refusal_read}
use Rattle.jt_lexer.specs.Tokens.{IsTokensOf, IsNoStop, NoStop, IsWhole, RefusesAt}
use Rattle.jt_lexer.specs.declared.error.LexError.{LexError}
use Rattle.jt_parser.specs.Refusals.{RefusesTokens}
use Rattle.jt_parser.specs.declared.error.ParseError.{ParseError}
use Rattle.jt_parser.specs.declared.error.ParseError.TheVariants as grammatical
use Rattle.jt_syntax.specs.Tree.{TopTree}
use Rattle.jt_syntax.specs.declared.token.Sign.TheVariants as sign
use Rattle.jt_syntax.specs.declared.token.Token.{Token}
use Rattle.jt_syntax.specs.declared.token.TokenKind.{TokenKind}
use Rattle.jt_syntax.specs.declared.token.TokenKind.TheVariants as kind
use Rattle.jt_syntax.specs.View.{script_view}
use Rattle.jt_syntax.specs.declared.script.Script.{Script}
use Rattle.jt_printer.specs.Again.{WasRead, ReadsAs, ReadsExactly, IsSameScript, IsScriptWithin}
use Rattle.jt_printer.specs.Reread.{IsReread, RefusesReread, IsShort}
use Rattle.jt_printer.specs.declared.reading.RereadError.{RereadError}
use Rattle.jt_printer.specs.declared.reading.RereadError.TheVariants as error

-- the tokens of a text end with the end token
not_stop : (k : TokenKind) → IsNoStop k → IsStop k → ⊥
not_stop (kind.Sign sign.Stop) n s = n
not_stop (kind.Sign _) n s = s
not_stop (kind.Number v) n s = s
not_stop (kind.Name w) n s = s
not_stop (kind.Text t) n s = s

no_stop : (ts : List Token) → NoStop ts → HasNoStop ts
no_stop [] n = tt
no_stop (t ∷ ts) n = (not_stop t.kind n.0, no_stop ts n.1)

pub ends_with_stop : (text : List ℕ) (ts : List Token) → IsWhole text ts → EndsWithStop ts
ends_with_stop text ts w = (w.0, token (kind.Sign sign.Stop) (length text) ∷ [], w.1, no_stop w.0 w.3, (length text, refl))

-- and they are no more than its bytes and one
pub few_tokens : (text bytes : List ℕ) (ts : List Token) → text ≡ bytes → length bytes ≤ most_script → IsWhole text ts → length ts ≤ most_script + 1
few_tokens text bytes ts same few w =
    let size : length ts ≡ length w.0 + 1 = ap length w.1 ∙ length-append w.0 (token (kind.Sign sign.Stop) (length text) ∷ []) in
    let bytes_same : length text ≡ length bytes = ap length same in
    let most = w.2 in
    omega (arith, size, bytes_same, most, few)

-- a text that has tokens isn't refused
ok_or_err : {A E : Type 0} {x : A} {y : E} → Ok x ≡ Err y → ⊥
ok_or_err e = cc

pub not_both : (text : List ℕ) (ts : List Token) (e : LexError) → IsTokensOf text ts → RefusesAt text e → ⊥
not_both text ts e tokens refusal = ok_or_err (sym (tokens_read text ts tokens) ∙ refusal_read text e refusal)

-- so a text that reads as a script isn't refused
pub reads_unrefused : (tops : List TopTree) (text bytes : List ℕ) (e : LexError) → text ≡ bytes → ReadsAs most_open tops bytes → RefusesAt text e → ⊥
reads_unrefused tops text bytes e same reads r = let P : List ℕ → Type 0 = λ z. RefusesAt z e in not_both bytes reads.1.0 e reads.1.1 (subst P same r)

pub same_tokens : (text bytes : List ℕ) (ts us : List Token) → text ≡ bytes → us ≡ ts → IsTokensOf text ts → IsTokensOf bytes us
same_tokens text bytes ts us same same_list is =
    let P : List ℕ → Type 0 = λ z. IsTokensOf z ts in let Q : List Token → Type 0 = λ z. IsTokensOf bytes z in subst Q (sym same_list) (subst P same is)

-- tokens that are a script aren't refused
pub same_unrefused : (tops : List TopTree) (ts : List Token) (e : ParseError) → IsSameScript most_open tops ts → RefusesTokens ts e → (e ≡ grammatical.OutOfMemory → ⊥) → ⊥
same_unrefused tops ts (grammatical.Unexpected at) same r other = not_unexpected most_open ts r.0 same.0 same.1.0 same.1.1 r.1
same_unrefused tops ts (grammatical.TooDeep at) same r other = not_too_deep most_open ts r.0 same.0 same.1.0 same.1.1 r.1
same_unrefused tops ts grammatical.OutOfMemory same r other = other refl

unexpected_not_none : {at : ℕ} → grammatical.Unexpected at ≡ grammatical.OutOfMemory → ⊥
unexpected_not_none e = cc

too_deep_not_none : {at : ℕ} → grammatical.TooDeep at ≡ grammatical.OutOfMemory → ⊥
too_deep_not_none e = cc

pub unexpected_is_none : (e : ParseError) (at : ℕ) → e ≡ grammatical.Unexpected at → e ≡ grammatical.OutOfMemory → ⊥
unexpected_is_none e at is none = unexpected_not_none (sym is ∙ none)

pub too_deep_is_none : (e : ParseError) (at : ℕ) → e ≡ grammatical.TooDeep at → e ≡ grammatical.OutOfMemory → ⊥
too_deep_is_none e at is none = too_deep_not_none (sym is ∙ none)

pub sliced : (ts us : List Token) → us ≡ ts → EndsWithStop ts → EndsWithStop us
sliced ts us same e = subst EndsWithStop (sym same) e

-- a script that the tokens are is what a text with these tokens gives
pub given_of : (text : List ℕ) (ts : List Token) (r : Result Script RereadError) → IsTokensOf text ts → IfOk r (λ s. IsScriptWithin most_open ts (script_view s)) → IfOk r (λ s. ReadsExactly most_open text (script_view s))
given_of text ts (Ok s) of k = (ts, of, k)
given_of text ts (Err e) of k = k

-- what an error says, where a script that was read is there again
pub refusal_told : (tops : List TopTree) (r : Result Script RereadError) → (WasRead most_open tops → IsReread tops r) → IfErr r IsShort → IfErr r (RefusesReread tops)
refusal_told tops (Ok s) again short = short
refusal_told tops (Err error.TooLong) again short = absurd short
refusal_told tops (Err error.NoScript) again short = again
refusal_told tops (Err error.OutOfMemory) again short = tt

-- An accepted script is no more than a script may have, a text, and not refused.
use Rattle.std.proofs.Common.{◌≡◌, ℕ, ◌+◌, List, [], ◌++◌, length, Option, Some, None, Result, Ok, Err, IsUtf8, sym, ap, ◌∙◌, subst, arith}
use Rattle.std.proofs.lemmas.List.{append-nil, length-append}
use Rattle.jt_base.specs.Limits.{most_script, most_open}
use Rattle.jt_base.specs.Outside.{ReadsToEnd, Gives}
use Rattle.jt_grammar.specs.Joined.{IsScriptOf, IsUnexpected, IsTooDeep}
use Rattle.jt_grammar.proofs.Main.{lines_only}
use Rattle.jt_grammar.proofs.OneRefusal.{not_unexpected, not_too_deep}
use Rattle.jt_printer.proofs.Whole.{not_both}
use Rattle.jt_lexer.proofs.TokenLaws.{tokens_read}
use Rattle.jt_lexer.specs.Tokens.{IsTokensOf}
use Rattle.jt_lexer.specs.declared.error.LexError.TheVariants as lexical
use Rattle.jt_forms.specs.Built.{unbuilt}
use Rattle.jt_naming.specs.declared.rules.Broken.{Broken}
use Rattle.jt_naming.specs.declared.rules.Rule.{Rule}
use Rattle.jt_naming.specs.declared.rules.Rule.TheVariants as rule
use Rattle.jt_naming.specs.Scripts.{IsOneOf, Breaks, BreaksNone, broken_rules}
use Rattle.jt_syntax.specs.Tree.{TopTree}
use Rattle.jt_syntax.specs.declared.token.Token.{Token}
use Rattle.jt_tool.specs.declared.report.Refusal.{Refusal}
use Rattle.jt_tool.specs.declared.report.Refusal.TheVariants.{BadCharacter, OpenString, NumberTooLarge, Unexpected, TooDeep, NotBuilt, UnknownName, CapturedAssigned, AmbiguousGlobal, TwiceDefined, WrongCount, NoConstant, BadJump}
use Rattle.jt_tool.specs.Scripts.{IsAccepted, IsScriptText, IsRefused, IsMisnamedAt}

-- what a source gave is no more than what was left
pub not_too_many : (before after : Option (List ℕ)) → IsAccepted before → Gives before after (most_script + 1) → ⊥
not_too_many None after accepted given = accepted
not_too_many (Some bytes) None accepted given = given.1
not_too_many (Some bytes) (Some rest) accepted given =
    let e : length bytes ≡ length (given.0 ++ rest) = ap length given.1 in
    let a = length-append given.0 rest in
    let n = given.2 in
    let m = accepted.0 in
    omega (arith, e, a, n, m)

-- a source that was read to its end gave all that was left
all_read : (bytes read : List ℕ) (after : Option (List ℕ)) → ReadsToEnd (Some bytes) after read → bytes ≡ read
all_read bytes read None h = absurd (h.0)
all_read bytes read (Some rest) h = h.0 ∙ ap (λ r. read ++ r) h.1 ∙ append-nil read

-- one text has one list of tokens
ok_is : {A E : Type 0} → A → Result A E → A
ok_is a (Ok x) = x
ok_is a (Err e) = a

one_list : (text : List ℕ) (ts us : List Token) → IsTokensOf text ts → IsTokensOf text us → ts ≡ us
unfolding ok_is
one_list text ts us t u = ap (ok_is ts) (sym (tokens_read text ts t) ∙ tokens_read text us u)

-- one text has one script
one_script : (bytes : List ℕ) (ts us : List Token) (tops others : List TopTree) → IsScriptText bytes ts tops → IsScriptText bytes us others → tops ≡ others
one_script bytes ts us tops others is other =
    let same = one_list bytes ts us is.lexed other.lexed in
    let P : List Token → Type 0 = λ xs. IsScriptOf xs others in
    lines_only ts tops others is.parsed (subst P (sym same) other.parsed)

-- a script that breaks no rule of names breaks none that counts
none_among : (b : Broken) (bs : List Broken) → bs ≡ [] → IsOneOf b bs → ⊥
none_among b bs none among = subst (IsOneOf b) none among

none_broken : (tops : List TopTree) (b : Broken) → BreaksNone tops → Breaks tops b → ⊥
none_broken tops b none breaks = none_among b (broken_rules tops) none breaks.among

not_misnamed : (bytes : List ℕ) (ts : List Token) (tops : List TopTree) (r : Rule) (at : ℕ) → IsScriptText bytes ts tops → BreaksNone tops → IsMisnamedAt bytes r at → ⊥
not_misnamed bytes ts tops r at is none m = none_broken m.1 _ (subst BreaksNone (one_script bytes ts m.0 tops m.1 is m.2) none) m.4

-- a script all of whose forms run, and that breaks no rule of names, is not refused
not_refused : (bytes : List ℕ) (ts : List Token) (tops : List TopTree) (kind : Refusal) (at : ℕ) → IsScriptText bytes ts tops → unbuilt tops ≡ None → BreaksNone tops → IsRefused bytes kind at → ⊥
not_refused bytes ts tops BadCharacter at is built named r = not_both bytes ts (lexical.BadCharacter at) is.lexed r
not_refused bytes ts tops OpenString at is built named r = not_both bytes ts (lexical.OpenString at) is.lexed r
not_refused bytes ts tops NumberTooLarge at is built named r = not_both bytes ts (lexical.NumberTooLarge at) is.lexed r
not_refused bytes ts tops Unexpected at is built named r =
    let same = one_list bytes ts r.0 is.lexed r.2 in
    let P : List Token → Type 0 = λ us. IsUnexpected most_open us r.1 in
    not_unexpected most_open ts r.1 tops is.parsed is.nested (subst P (sym same) r.3)
not_refused bytes ts tops TooDeep at is built named r =
    let same = one_list bytes ts r.0 is.lexed r.2 in
    let P : List Token → Type 0 = λ us. IsTooDeep most_open us r.1 in
    not_too_deep most_open ts r.1 tops is.parsed is.nested (subst P (sym same) r.3)
not_refused bytes ts tops NotBuilt at is built named r =
    absurd (none_some (sym built ∙ ap unbuilt (one_script bytes ts r.0 tops r.1 is r.2) ∙ r.3))
  where
    none_some : {n : ℕ} → None ≡ Some n → ⊥
    none_some q = cc
not_refused bytes ts tops UnknownName at is built named r = not_misnamed bytes ts tops rule.UnknownName at is named r
not_refused bytes ts tops CapturedAssigned at is built named r = not_misnamed bytes ts tops rule.CapturedAssigned at is named r
not_refused bytes ts tops AmbiguousGlobal at is built named r = not_misnamed bytes ts tops rule.AmbiguousGlobal at is named r
not_refused bytes ts tops TwiceDefined at is built named r = not_misnamed bytes ts tops rule.TwiceDefined at is named r
not_refused bytes ts tops WrongCount at is built named r = not_misnamed bytes ts tops rule.WrongCount at is named r
not_refused bytes ts tops NoConstant at is built named r = not_misnamed bytes ts tops rule.NoConstant at is named r
not_refused bytes ts tops BadJump at is built named r = not_misnamed bytes ts tops rule.BadJump at is named r

pub not_refused_source : (before after : Option (List ℕ)) (read : List ℕ) (kind : Refusal) (at : ℕ) → IsAccepted before → ReadsToEnd before after read → IsRefused read kind at → ⊥
not_refused_source None after read kind at accepted h r = accepted
not_refused_source (Some bytes) after read kind at accepted h r =
    let P : List ℕ → Type 0 = λ b. IsRefused b kind at in
    let p = accepted.2 in
    not_refused bytes p.tokens p.tops kind at p.read p.built p.named (subst P (sym (all_read bytes read after h)) r)

pub text_source : (before after : Option (List ℕ)) (read : List ℕ) → IsAccepted before → ReadsToEnd before after read → (IsUtf8 read → ⊥) → ⊥
text_source None after read accepted h no_text = accepted
text_source (Some bytes) after read accepted h no_text = no_text (subst IsUtf8 (all_read bytes read after h) accepted.2.read.text)

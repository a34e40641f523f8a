-- Tokens of the kinds that are printed for a script are that script again, up to places.
use Rattle.std.proofs.Common.{◌≡◌, ℕ, false, List, [], ◌∷◌, ◌++◌, refl, sym, ap, subst, ◌∙◌}
use Rattle.std.proofs.lemmas.List.{map-append}
use Rattle.jt_syntax.specs.Tree.{TopTree}
use Rattle.jt_syntax.specs.declared.token.Sign.TheVariants as sign
use Rattle.jt_syntax.specs.declared.token.Token.{Token}
use Rattle.jt_syntax.specs.declared.token.TokenKind.{TokenKind}
use Rattle.jt_syntax.specs.declared.token.TokenKind.TheVariants as kind
use Rattle.jt_grammar.specs.Grammar.{token, ScriptSpells}
use Rattle.jt_grammar.specs.Joined.{is_newline, joined, IsScriptOf}
use Rattle.jt_grammar.specs.Nesting.{TopsWithin}
use Rattle.jt_grammar.specs.Printed.{script_kinds, bare_script}
use Rattle.jt_grammar.proofs.Joining.{joined_plain}
use Rattle.jt_grammar.proofs.Steps.{NoNewline}
use Rattle.jt_grammar.proofs.Printing.{unplaced, printed_tokens, script_printed, no_newline-script}
use Rattle.jt_grammar.proofs.Places.{Alike, kinds, alike_one, alike_none, script_moved}
use Rattle.jt_grammar.proofs.Bare.{same_within, script-bare}

no_newline-alike : (w v : List Token) → NoNewline w → Alike w v → NoNewline v
no_newline-alike [] v a h = subst NoNewline (sym (alike_none v h)) tt
no_newline-alike (t ∷ w) v a h =
    let x = alike_one t w v h in
    subst NoNewline (sym x.2) (ap is_newline x.3 ∙ a.0, no_newline-alike w x.1 a.1 x.4)

kinds-unplaced : (ks : List TokenKind) → kinds (unplaced ks) ≡ ks
kinds-unplaced [] = refl
kinds-unplaced (k ∷ ks) = ap (λ z. k ∷ z) (kinds-unplaced ks)

kinds-printed : (tops : List TopTree) → kinds (printed_tokens tops) ≡ script_kinds tops ++ kind.Sign sign.Stop ∷ []
kinds-printed tops = map-append (λ t. t.kind) (unplaced (script_kinds tops)) (token (kind.Sign sign.Stop) 0 ∷ []) ∙ ap (λ z. z ++ kind.Sign sign.Stop ∷ []) (kinds-unplaced (script_kinds tops))

pub script_again : (d : ℕ) (tops : List TopTree) (ts again : List Token) → IsScriptOf ts tops → TopsWithin d tops → kinds again ≡ script_kinds tops ++ kind.Sign sign.Stop ∷ []
    → (others : List TopTree) × IsScriptOf again others × TopsWithin d others × (bare_script others ≡ bare_script tops)
script_again d tops ts again a b e =
    let alike = e ∙ sym (kinds-printed tops) in
    let x = script_moved (bare_script tops) (printed_tokens tops) again (script_printed tops (joined ts) a) alike in
    let same = x.2 ∙ script-bare tops in
    let plain = joined_plain ([], false) again (no_newline-alike (printed_tokens tops) again (no_newline-script tops (joined ts) a) alike) in
    (x.0, subst (ScriptSpells x.0) (sym plain) x.1, same_within tops x.0 d same b, same)

-- What is read of joined lines, for the tokens as they were written.
use Rattle.std.proofs.Common.{◌≡◌, ℕ, ◌+◌, ◌<◌, List, length, Ok, subst, arith}
use Rattle.jt_base.specs.Limits.{most_open}
use Rattle.jt_syntax.specs.Tree.{TopTree}
use Rattle.jt_syntax.specs.declared.token.Token.{Token}
use Rattle.jt_grammar.specs.Grammar.{EndsWithStop}
use Rattle.jt_grammar.specs.Joined.{joined, IsScriptOf, IsUnexpected, IsTooDeep}
use Rattle.jt_grammar.specs.Nesting.{TopsWithin}
use Rattle.jt_grammar.specs.Reader.{script}
use Rattle.jt_grammar.proofs.Joining.{IsAt}
use Rattle.jt_grammar.proofs.Main.{lines_found, lines_unexpected, lines_deep, lines_spent}
use Rattle.jt_cursor.specs.declared.failure.Failure.{Failure}
use Rattle.jt_cursor.specs.declared.failure.Failure.TheVariants as failure
use Rattle.jt_cursor.specs.Parses.{Fails}

module _ (ts js cur : List Token) (n : ℕ) (whole : EndsWithStop ts) (joins : js ≡ joined ts) (cursor : cur ≡ js) (turns : n ≡ length js + 1) where
  enough : length js < n
  enough = omega (arith, turns)

  pub is_script : (tops : List TopTree) (rest : List Token) → script n most_open cur ≡ Ok (tops, rest) → IsScriptOf ts tops × TopsWithin most_open tops
  is_script tops rest e = lines_found n most_open ts js whole joins enough tops rest (subst (λ z. script n most_open z ≡ Ok (tops, rest)) cursor e)

  pub is_unexpected : (f : Failure) (left : ℕ) → f ≡ failure.Unexpected left → Fails f (script n most_open cur) → (t : Token) × IsUnexpected most_open ts t × IsAt js left t
  is_unexpected f left is e = lines_unexpected n most_open ts js whole joins enough left (subst (λ z. Fails (failure.Unexpected left) (script n most_open z)) cursor (subst (λ z. Fails z (script n most_open cur)) is e))

  pub is_deep : (f : Failure) (left : ℕ) → f ≡ failure.TooDeep left → Fails f (script n most_open cur) → (t : Token) × IsTooDeep most_open ts t × IsAt js left t
  is_deep f left is e = lines_deep n most_open ts js whole joins enough left (subst (λ z. Fails (failure.TooDeep left) (script n most_open z)) cursor (subst (λ z. Fails z (script n most_open cur)) is e))

  pub not_spent : (f : Failure) → f ≡ failure.Spent → Fails f (script n most_open cur) → ⊥
  not_spent f is e = lines_spent n most_open ts js whole joins enough (subst (λ z. Fails failure.Spent (script n most_open z)) cursor (subst (λ z. Fails z (script n most_open cur)) is e))

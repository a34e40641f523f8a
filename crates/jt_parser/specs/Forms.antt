-- Parts of the reader's rules on the top of a script that the code reads by a function of their own.
use Rattle.std.specs.Prelude.{ℕ, ◌-◌, List}
use Rattle.jt_syntax.specs.Tree.{Tree, Step, Form}
use Rattle.jt_syntax.specs.Tree as tree
use Rattle.jt_syntax.specs.declared.script.Identifier.{Identifier}
use Rattle.jt_syntax.specs.declared.token.Sign.TheVariants as sign
use Rattle.jt_grammar.specs.declared.Level.{Level}
use Rattle.jt_grammar.specs.Reader.{Parser, ◌>>=◌, ◌>>◌, pure, skip, opening, expect, names, tail, whole, stepped, shortened}

-- a statement of a script, or a short function
abbrev pub stepped_form : ℕ → ℕ → (Level → Parser Tree) → Parser Step → Parser Form
stepped_form turns depth expr_in step_in = stepped turns depth expr_in step_in >>= shortened turns depth expr_in step_in

-- behind the parameters of a function
abbrev pub function_body : ℕ → ℕ → (Level → Parser Tree) → Parser Step → Identifier → List Identifier → Parser Form
function_body turns depth expr_in step_in i is = do
  ss ← tail turns depth expr_in step_in
  expect sign.End
  pure (tree.function i is ss)

-- behind its name
abbrev pub named_function : ℕ → ℕ → (Level → Parser Tree) → Parser Step → Identifier → Parser Form
named_function turns depth expr_in step_in i = do
  opening (depth - 1) sign.Open
  is ← names turns depth expr_in step_in
  expect sign.Close
  function_body turns depth expr_in step_in i is

-- behind the head of a short function
abbrev pub short_function : ℕ → ℕ → (Level → Parser Tree) → Parser Step → Identifier → List Identifier → Parser Form
short_function turns depth expr_in step_in i is = skip >>= λ _. whole turns depth expr_in step_in >>= λ e. pure (tree.short i is e)

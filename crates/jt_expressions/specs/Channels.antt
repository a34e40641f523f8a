-- Parts of the reader's rule on channels that the code reads by a function of their own.
use Rattle.std.specs.Prelude.{ℕ}
use Rattle.jt_syntax.specs.Tree.{Tree, Step}
use Rattle.jt_syntax.specs.Tree as tree
use Rattle.jt_syntax.specs.declared.token.Sign.TheVariants as sign
use Rattle.jt_grammar.specs.declared.Level.{Level}
use Rattle.jt_grammar.specs.declared.Level.TheVariants as levels
use Rattle.jt_grammar.specs.Reader.{Parser, ◌>>=◌, ◌>>◌, pure, expect}

-- a capacity, up to the closing parenthesis
abbrev pub buffered : ℕ → ℕ → (Level → Parser Tree) → Parser Step → Parser Tree
buffered turns depth expr_in step_in = do
  e ← expr_in levels.Whole
  expect sign.Close
  pure (tree.channel e)

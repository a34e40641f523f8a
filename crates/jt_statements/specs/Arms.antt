-- The arms of an `if` behind its first one.
use Rattle.std.specs.Prelude.{ℕ, List, Option, Some, None, map}
use Rattle.jt_syntax.specs.Tree.{Tree, Arms, Step, Steps}
use Rattle.jt_syntax.specs.Tree as tree
use Rattle.jt_syntax.specs.View.{arm_view, stmt_views, arms_of}
use Rattle.jt_syntax.specs.declared.script.Stmt.{Stmt}
use Rattle.jt_syntax.specs.declared.token.Sign.TheVariants as sign
use Rattle.jt_grammar.specs.declared.Level.{Level}
use Rattle.jt_grammar.specs.declared.Level.TheVariants as levels
use Rattle.jt_grammar.specs.Reader.{Parser, ◌>>=◌, ◌>>◌, pure, on, skip, expect, arms, body, tail}
use Rattle.jt_statements.specs.declared.block.Others.{Others}

abbrev pub last_view : Option (List Stmt) → Arms
last_view None = tree.no_arms
last_view (Some ss) = tree.otherwise (stmt_views ss)

abbrev pub others_view : Others → Arms
others_view o = arms_of (map arm_view o.arms) (last_view o.last)

-- what stands behind `elseif`
abbrev pub arm_read : ℕ → ℕ → (Level → Parser Tree) → Parser Step → Parser (Tree × Steps)
arm_read turns depth expr_in step_in = do
  c ← expr_in levels.Condition
  ss ← tail turns depth expr_in step_in
  pure (c, ss)

-- `else` with what stands behind it, or nothing
abbrev pub last_read : ℕ → ℕ → (Level → Parser Tree) → Parser Step → Parser Arms
last_read turns depth expr_in step_in = on sign.Else (skip >> (body turns depth expr_in step_in >>= λ ss. pure (tree.otherwise ss))) (pure tree.no_arms)

-- what stands behind the first arm
abbrev pub branches_read : ℕ → ℕ → (Level → Parser Tree) → Parser Step → Tree → Steps → Parser Tree
branches_read turns depth expr_in step_in c ss = do
  rest ← arms turns depth expr_in step_in turns
  expect sign.End
  pure (tree.branches c ss rest)

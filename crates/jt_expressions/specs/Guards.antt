-- Operands of `&&` or `||`, behind which a jump may stand.
use Rattle.std.specs.Prelude.{ℕ, Bool}
use Rattle.jt_syntax.specs.Tree.{Tree, Terms, Step}
use Rattle.jt_syntax.specs.Tree as tree
use Rattle.jt_syntax.specs.declared.operator.Connective.{Connective}
use Rattle.jt_grammar.specs.declared.Level.{Level}
use Rattle.jt_grammar.specs.Reader.{Parser, ◌>>=◌, pure, leap}
use Rattle.jt_expressions.specs.declared.guard.Guarded.{Guarded}
use Rattle.jt_expressions.specs.Chains.{terms_view}

-- with whether the same operator and a jump stand behind them
abbrev pub guarded_view : Guarded → Terms × Bool
guarded_view g = (terms_view g.operands, g.jumps)

-- the jump behind them
abbrev pub jumped : ℕ → ℕ → (Level → Parser Tree) → Parser Step → Connective → Tree → Terms → Parser Step
jumped turns depth expr_in step_in k e es = leap turns depth expr_in step_in >>= λ j. pure (tree.guard k e es j)

-- Parts that are made one after another, and what comes behind them.
use Rattle.std.specs.Prelude.{List, [], ◌∷◌, ◌++◌, Option, Some, None}
use Rattle.jt_syntax.specs.declared.script.Stmt.{Stmt}
use Rattle.jt_syntax.specs.Tree.{Arms}
use Rattle.jt_syntax.specs.Tree as tree
use Rattle.jt_syntax.specs.View.{stmt_views}
use Rattle.jt_program.specs.Plan.{Plan, Choices}
use Rattle.jt_program.specs.Plan as plan

abbrev pub behind : {A B : Type 0} → (A → B → B) → List A → B → B
behind f [] last = last
behind f (x ∷ xs) last = f x (behind f xs last)

abbrev pub with_last : {A : Type 0} → List A → A → List A
with_last xs x = xs ++ x ∷ []

abbrev pub choice_before : Plan × Plan → Choices → Choices
choice_before a ps = plan.choice a.0 a.1 ps

-- what stands behind the last arm, in it where it is that behind `else`
abbrev pub last_view : Option (List Stmt) → Arms
last_view None = tree.no_arms
last_view (Some ss) = tree.otherwise (stmt_views ss)

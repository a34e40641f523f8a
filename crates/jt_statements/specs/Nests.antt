-- Function values that read expressions and statements of the next level of nesting.
use Rattle.std.specs.Prelude.{ℕ, List, Result}
use Rattle.std.specs.declared.alloc.Global.{Global}
use denote.Ref.{MutBor}
use Rattle.jt_syntax.specs.View.{view, stmt_view}
use Rattle.jt_syntax.specs.declared.script.Expr.{Expr}
use Rattle.jt_syntax.specs.declared.script.Stmt.{Stmt}
use Rattle.jt_syntax.specs.declared.token.Token.{Token}
use Rattle.jt_grammar.specs.declared.Level.{Level}
use Rattle.jt_grammar.specs.Reader.{read, read_step}
use Rattle.jt_cursor.specs.declared.failure.Failure.{Failure}
use Rattle.jt_cursor.specs.Parses.{Parses}

pub record Nests (turns depth : ℕ) (pre : Global → MutBor (List Token) → ℕ → ℕ → Level → Type 0)
    (post : Global → MutBor (List Token) → ℕ → ℕ → Level → Result Expr Failure → MutBor (List Token) → Type 0)
    (pre_step : Global → MutBor (List Token) → ℕ → ℕ → Type 0)
    (post_step : Global → MutBor (List Token) → ℕ → ℕ → Result Stmt Failure → MutBor (List Token) → Type 0) : Type 0 where
  pub callable : (alloc : Global) (old : MutBor (List Token)) (level : Level) → pre alloc old turns depth level
  pub reads : (alloc : Global) (old new : MutBor (List Token)) (level : Level) (r : Result Expr Failure) → post alloc old turns depth level r new
      → Parses view (read turns depth level old.now) r new.now
  pub callable_step : (alloc : Global) (old : MutBor (List Token)) → pre_step alloc old turns depth
  pub reads_step : (alloc : Global) (old new : MutBor (List Token)) (r : Result Stmt Failure) → post_step alloc old turns depth r new
      → Parses stmt_view (read_step turns depth old.now) r new.now

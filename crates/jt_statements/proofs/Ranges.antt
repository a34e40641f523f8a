-- The iterations of `@threads`, by the parts of a loop.
use Rattle.std.proofs.Common.{◌≡◌, ℕ, Option, Some, None, refl}
use Rattle.jt_syntax.specs.Tree.{Tree, Step, Steps}
use Rattle.jt_syntax.specs.Tree as tree
use Rattle.jt_syntax.specs.declared.script.Identifier.{Identifier}
use Rattle.jt_syntax.specs.declared.script.Schedule.{Schedule}
use Rattle.jt_grammar.specs.declared.Level.{Level}
use Rattle.jt_grammar.specs.Reader.{Parser, pure, refuse, threads_of}
use Rattle.jt_statements.specs.Ranges.{range_parts}

abbrev pub threads_by : ℕ → Option Schedule → Option (Identifier × Tree × Tree × Steps) → Parser Tree
threads_by at s None = refuse
threads_by at s (Some p) = pure (tree.threads at s p.0 p.1 p.2 p.3)

pub threads_by_parts : (turns depth : ℕ) (expr_in : Level → Parser Tree) (step_in : Parser Step) (at : ℕ) (s : Option Schedule) (e : Tree) → threads_of turns depth expr_in step_in at s e ≡ threads_by at s (range_parts e)
threads_by_parts turns depth expr_in step_in at s (tree.for_range i a b ss) = refl
threads_by_parts turns depth expr_in step_in at s _ = refl

-- What is known of the readers of the next level of nesting.
use Rattle.std.proofs.Common.{ℕ}
use Rattle.jt_syntax.specs.Tree.{Tree, Step, Steps}
use Rattle.jt_syntax.specs.Tree as tree
use Rattle.jt_syntax.specs.declared.script.Identifier.{Identifier}
use Rattle.jt_grammar.specs.declared.Level.{Level}
use Rattle.jt_grammar.specs.declared.Level.TheVariants as levels
use Rattle.jt_grammar.specs.Grammar.{Spells, StepSpells}
use Rattle.jt_grammar.specs.Nesting.{Within, StepWithin}
use Rattle.jt_grammar.specs.Reader.{Parser}
use Rattle.jt_grammar.proofs.CompleteParts.{Any, Takes}
use Rattle.jt_grammar.proofs.CompleteChains.{IsComplete}
use Rattle.jt_grammar.proofs.Front.{Closes}

-- expressions of each level and statements are read, where no more openers are open than that
pub record AllRead (n d : ℕ) (expr_in : Level → Parser Tree) (step_in : Parser Step) : Type 0 where
  pub operand_read : IsComplete 9 d n (expr_in levels.Operand)
  pub sum_read : IsComplete 6 d n (expr_in levels.Sum)
  pub condition_read : IsComplete 2 d n (expr_in levels.Condition)
  pub whole_read : IsComplete 1 d n (expr_in levels.Whole)
  pub loop_read : (i : Identifier) (a b : Tree) (ss : Steps) → Within d (tree.for_range i a b ss) → Takes n (Spells (tree.for_range i a b ss)) Any (expr_in levels.Loop) (tree.for_range i a b ss)
  pub step_read : (x : Step) → StepWithin d x → Takes n (StepSpells x) Closes step_in x

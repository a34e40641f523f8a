-- The last part of a block needs no frame.
use Rattle.std.proofs.Common.{sym, ◌∙◌, eqb-true}
use Rattle.std.proofs.lemmas.List.{nil_from_length}
use Rattle.jt_step.proofs.Moves.{ends_with}
use Rattle.jt_step.proofs.evaluator.Evaluator.begin_part.Goals as goal

pub returns-then-is_empty : goal.returns-then-is_empty
returns-then-is_empty c = λ program. ends_with program _ _ _ (nil_from_length _ (eqb-true _ _ (sym c.is_empty.ensures ∙ c.if-is_empty.true)))

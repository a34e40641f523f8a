-- Each frame has the value by a move that does what the frame does with it.
use Rattle.std.proofs.Common.{arith}
use Rattle.jt_step.proofs.Loops.{turn_hands, bounds_hands}
use Rattle.jt_step.proofs.Moves.{gives_by}
use Rattle.jt_step.proofs.evaluator.Evaluator.give_to.Goals as goal

pub returns-in-Operands : goal.returns-in-Operands
returns-in-Operands c = λ program. gives_by program _ _ _ _ _ _ _ (c.in_ok-next_operand-in-Operands.ensures program) (λ s. rw c.in-Operands.is) (rw c.in-Operands.is (omega arith))

pub returns-in-Operand : goal.returns-in-Operand
returns-in-Operand c = λ program. rw c.in-Operand.is (c.in_ok-give_operand-in-Operand.ensures program)

pub returns-in-Comparisons : goal.returns-in-Comparisons
returns-in-Comparisons c = λ program. gives_by program _ _ _ _ _ _ _ (c.in_ok-next_comparison-in-Comparisons.ensures program) (λ s. rw c.in-Comparisons.is) (rw c.in-Comparisons.is (omega arith))

pub returns-in-Compared : goal.returns-in-Compared
returns-in-Compared c = λ program. rw c.in-Compared.is (c.in_ok-give_compared-in-Compared.ensures program)

pub returns-in-Connection : goal.returns-in-Connection
returns-in-Connection c = λ program. gives_by program _ _ _ _ _ _ _ (c.in_ok-next_connected-in-Connection.ensures program) (λ s. rw c.in-Connection.is) (rw c.in-Connection.is (omega arith))

pub returns-in-Choice : goal.returns-in-Choice
returns-in-Choice c = λ program. rw c.in-Choice.is (c.in_ok-give_condition-in-Choice.ensures program)

pub returns-in-Rest : goal.returns-in-Rest
returns-in-Rest c = λ program. gives_by program _ _ _ _ _ _ _ (c.in_ok-next_part-in-Rest.ensures program) (λ s. rw c.in-Rest.is) (rw c.in-Rest.is (omega arith))

pub returns-in-Condition : goal.returns-in-Condition
returns-in-Condition c = λ program. rw (c.in-Condition.is, c.turn_of.ensures) (turn_hands program _ _ _ _ _ _)

pub returns-in-Low : goal.returns-in-Low
returns-in-Low c = λ program. gives_by program _ _ _ _ _ _ _ (c.in_ok-begin_with-in-Low.ensures program) (λ s. rw c.in-Low.is) (rw c.in-Low.is (omega arith))

pub returns-in-High : goal.returns-in-High
returns-in-High c = λ program. rw (c.in-High.is, c.turns_between.ensures) (bounds_hands program _ _ _ _ _ _)

pub returns-in-Loop : goal.returns-in-Loop
returns-in-Loop c = λ program. record {
  same = λ rs. rw c.in-Loop.is (c.in_ok-go_on-in-Loop.ensures.same program rs);
  less = rw c.in-Loop.is c.in_ok-go_on-in-Loop.ensures.less;
  turns = c.in_ok-go_on-in-Loop.ensures.turns;
}

pub returns-in-Arguments : goal.returns-in-Arguments
returns-in-Arguments c = λ program. gives_by program _ _ _ _ _ _ _ (c.in_ok-next_argument-in-Arguments.ensures program) (λ s. rw (c.in-Arguments.is, c.in_ok-push-in-Arguments.ensures.ok)) (rw c.in-Arguments.is (omega arith))

pub returns-in-Pieces : goal.returns-in-Pieces
returns-in-Pieces c = λ program. gives_by program _ _ _ _ _ _ _ (c.in_ok-next_piece-in-Pieces.ensures program) (λ s. rw (c.in-Pieces.is, c.in_ok-push_value-in-Pieces.ensures)) (rw c.in-Pieces.is (omega arith))

pub returns-in-Sync : goal.returns-in-Sync
returns-in-Sync c = λ program. gives_by program _ _ _ _ _ _ _ (c.in_ok-end_sync-in-Sync.ensures program) (λ s. rw c.in-Sync.is) (rw c.in-Sync.is (omega arith))

pub returns-in-Waiting : goal.returns-in-Waiting
returns-in-Waiting c = λ program. gives_by program _ _ _ _ _ _ _ (c.in_ok-next_wait-in-Waiting.ensures program) (λ s. rw (c.in-Waiting.is, c.into_inner.ensures)) (rw c.in-Waiting.is (omega arith))

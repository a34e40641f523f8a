-- Each form begins by a move that does what the form does.
use Rattle.std.proofs.Common.{arith}
use Rattle.jt_step.proofs.Moves.{begins_by}
use Rattle.jt_step.proofs.Plans.{plan-Assign, plan-Define, plan-Unary, plan-Operation, plan-Comparison, plan-Connection, plan-Branch, plan-Block, plan-While, plan-For, plan-Call, plan-Print, plan-Spawn, plan-Sync, plan-Return}
use Rattle.jt_step.proofs.evaluator.Evaluator.eval.Goals as goal

pub returns-in_ok-begin_or_give-in-Assign : goal.returns-in_ok-begin_or_give-in-Assign
returns-in_ok-begin_or_give-in-Assign c = begins_by _ _ _ _ _ _ _ (c.in_ok-begin_or_give-in-Assign.ensures _) (λ s. rw (c.in-Assign.is, c.get.ensures, plan-Assign)) (rw (c.in-Assign.is, c.get.ensures, plan-Assign) (omega arith))

pub returns-in_ok-begin_or_give-in-Define : goal.returns-in_ok-begin_or_give-in-Define
returns-in_ok-begin_or_give-in-Define c = begins_by _ _ _ _ _ _ _ (c.in_ok-begin_or_give-in-Define.ensures _) (λ s. rw (c.in-Define.is, c.get-in-Define.ensures, plan-Define)) (rw (c.in-Define.is, c.get-in-Define.ensures, plan-Define) (omega arith))

pub returns-in_ok-begin_or_give-in-Unary : goal.returns-in_ok-begin_or_give-in-Unary
returns-in_ok-begin_or_give-in-Unary c = begins_by _ _ _ _ _ _ _ (c.in_ok-begin_or_give-in-Unary.ensures _) (λ s. rw (c.in-Unary.is, c.get-in-Unary.ensures, plan-Unary)) (rw (c.in-Unary.is, c.get-in-Unary.ensures, plan-Unary) (omega arith))

pub returns-in_ok-begin_or_give-in-Operation : goal.returns-in_ok-begin_or_give-in-Operation
returns-in_ok-begin_or_give-in-Operation c = begins_by _ _ _ _ _ _ _ (c.in_ok-begin_or_give-in-Operation.ensures _) (λ s. rw (c.in-Operation.is, c.as_slice-in-Operation.ensures, c.get-in-Operation.ensures, plan-Operation)) (rw (c.in-Operation.is, c.as_slice-in-Operation.ensures, c.get-in-Operation.ensures, plan-Operation) (omega arith))

pub returns-in_ok-begin_or_give-in-Comparison : goal.returns-in_ok-begin_or_give-in-Comparison
returns-in_ok-begin_or_give-in-Comparison c = begins_by _ _ _ _ _ _ _ (c.in_ok-begin_or_give-in-Comparison.ensures _) (λ s. rw (c.in-Comparison.is, c.as_slice-in-Comparison.ensures, c.get-in-Comparison.ensures, plan-Comparison)) (rw (c.in-Comparison.is, c.as_slice-in-Comparison.ensures, c.get-in-Comparison.ensures, plan-Comparison) (omega arith))

pub returns-in_ok-begin_or_give-in-Connection : goal.returns-in_ok-begin_or_give-in-Connection
returns-in_ok-begin_or_give-in-Connection c = begins_by _ _ _ _ _ _ _ (c.in_ok-begin_or_give-in-Connection.ensures _) (λ s. rw (c.in-Connection.is, c.as_slice-in-Connection.ensures, c.get-in-Connection.ensures, plan-Connection)) (rw (c.in-Connection.is, c.as_slice-in-Connection.ensures, c.get-in-Connection.ensures, plan-Connection) (omega arith))

pub returns-in_ok-next_arm-in-Branch : goal.returns-in_ok-next_arm-in-Branch
returns-in_ok-next_arm-in-Branch c = begins_by _ _ _ _ _ _ _ (c.in_ok-next_arm-in-Branch.ensures _) (λ s. rw (c.in-Branch.is, c.as_slice-in-Branch.ensures, c.get-in-Branch.ensures, plan-Branch)) (rw (c.in-Branch.is, c.as_slice-in-Branch.ensures, c.get-in-Branch.ensures, plan-Branch) (omega arith))

pub returns-in_ok-next_part-in-Block : goal.returns-in_ok-next_part-in-Block
returns-in_ok-next_part-in-Block c = begins_by _ _ _ _ _ _ _ (c.in_ok-next_part-in-Block.ensures _) (λ s. rw (c.in-Block.is, c.as_slice-in-Block.ensures, plan-Block)) (rw (c.in-Block.is, c.as_slice-in-Block.ensures, plan-Block) (omega arith))

pub returns-in_ok-begin_or_give-in-While : goal.returns-in_ok-begin_or_give-in-While
returns-in_ok-begin_or_give-in-While c = begins_by _ _ _ _ _ _ _ (c.in_ok-begin_or_give-in-While.ensures _) (λ s. rw (c.in-While.is, c.get-in-While.ensures, c.get-in-While-2.ensures, c.get-in-While-3.ensures, plan-While)) (rw (c.in-While.is, c.get-in-While-3.ensures, plan-While) (omega arith))

pub returns-in_ok-begin_or_give-in-For : goal.returns-in_ok-begin_or_give-in-For
returns-in_ok-begin_or_give-in-For c = begins_by _ _ _ _ _ _ _ (c.in_ok-begin_or_give-in-For.ensures _) (λ s. rw (c.in-For.is, c.get-in-For.ensures, c.get-in-For-2.ensures, c.get-in-For-3.ensures, plan-For)) (rw (c.in-For.is, c.get-in-For.ensures, c.get-in-For-3.ensures, plan-For) (omega arith))

pub returns-in_ok-next_argument-in-Call : goal.returns-in_ok-next_argument-in-Call
returns-in_ok-next_argument-in-Call c = begins_by _ _ _ _ _ _ _ (c.in_ok-next_argument-in-Call.ensures _) (λ s. rw (c.in-Call.is, c.new.ensures, c.as_slice-in-Call.ensures, plan-Call)) (rw (c.in-Call.is, c.as_slice-in-Call.ensures, plan-Call) (omega arith))

pub returns-in_ok-next_piece-in-Print : goal.returns-in_ok-next_piece-in-Print
returns-in_ok-next_piece-in-Print c = begins_by _ _ _ _ _ _ _ (c.in_ok-next_piece-in-Print.ensures _) (λ s. rw (c.in-Print.is, c.new-in-Print.ensures, c.as_slice-in-Print.ensures, plan-Print)) (rw (c.in-Print.is, c.as_slice-in-Print.ensures, plan-Print) (omega arith))

pub returns-in_ok-fork-in-Spawn : goal.returns-in_ok-fork-in-Spawn
returns-in_ok-fork-in-Spawn c = begins_by _ _ _ _ _ _ _ c.in_ok-fork-in-Spawn.ensures (λ s. rw (c.in-Spawn.is, plan-Spawn)) (rw (c.in-Spawn.is, plan-Spawn) (omega arith))

pub returns-in_ok-begin_sync-in-Sync : goal.returns-in_ok-begin_sync-in-Sync
returns-in_ok-begin_sync-in-Sync c = begins_by _ _ _ _ _ _ _ (c.in_ok-begin_sync-in-Sync.ensures _) (λ s. rw (c.in-Sync.is, c.get-in-Sync.ensures, plan-Sync)) (rw (c.in-Sync.is, c.get-in-Sync.ensures, plan-Sync) (omega arith))

pub returns-in_ok-begin_or_give-in-Return : goal.returns-in_ok-begin_or_give-in-Return
returns-in_ok-begin_or_give-in-Return c = begins_by _ _ _ _ _ _ _ (c.in_ok-begin_or_give-in-Return.ensures _) (λ s. rw (c.in-Return.is, c.get-in-Return.ensures, plan-Return)) (rw (c.in-Return.is, c.get-in-Return.ensures, plan-Return) (omega arith))

-- The goals for which the first search finds nothing.
use Rattle.std.proofs.Common.{arith, rules}
use Rattle.std.proofs.lemmas.Grind.{common_steps}
use Rattle.jt_syntax.specs.declared.script.Expr.{the_lemmas}
use Rattle.jt_syntax.specs.Tree as tree
use Rattle.jt_outline.specs.Marks as marks
use Rattle.jt_outline.specs.declared.mark.Mark as mark
use Rattle.jt_outlining.proofs.walk.Walk.+walk.Goals as goal

pub expression-returns-in-Threads : goal.expression-returns-in-Threads
expression-returns-in-Threads t c = λ r. grind (arith, common_steps, the_lemmas, c.put.ensures marks.macro (search (rules, mark.the_lemmas)) r)

pub expression-returns-in-Call : goal.expression-returns-in-Call
expression-returns-in-Call t c = λ r. grind (arith, common_steps, the_lemmas, c.call.ensures r)

pub expression-returns-in-Println : goal.expression-returns-in-Println
expression-returns-in-Println t c = λ r. grind (arith, common_steps, the_lemmas, c.println.ensures r)

pub expression-returns-in-Chain : goal.expression-returns-in-Chain
expression-returns-in-Chain t c = λ r. grind (arith, common_steps, the_lemmas, c.chain.ensures r)

pub expression-returns-in-Block : goal.expression-returns-in-Block
expression-returns-in-Block t c = λ r. grind (arith, common_steps, the_lemmas, c.statements.ensures r)

pub expression-returns-in-If-default-default-default-None : goal.expression-returns-in-If-default-default-default-None
expression-returns-in-If-default-default-default-None t c = λ r. grind (arith, common_steps, the_lemmas, c.branches.ensures tree.no_arms r)

pub expression-returns-in_ok-expression-in-While : goal.expression-returns-in_ok-expression-in-While
expression-returns-in_ok-expression-in-While t c = λ r. grind (arith, common_steps, the_lemmas, c.loop_scope.ensures r)

pub expression-returns-in_ok-two-in-ForRange : goal.expression-returns-in_ok-two-in-ForRange
expression-returns-in_ok-two-in-ForRange t c = λ r. grind (arith, common_steps, the_lemmas, c.for_scope.ensures r)

pub jump-returns-in-Return-default-None : goal.jump-returns-in-Return-default-None
jump-returns-in-Return-default-None t c = λ r. grind (arith, common_steps, the_lemmas, c.put.ensures (marks.return_jump c.in-Return-default-None.at) (search (rules, mark.the_lemmas)) r)

pub jump-returns-in-Break : goal.jump-returns-in-Break
jump-returns-in-Break t c = λ r. grind (arith, common_steps, the_lemmas, c.put-in-Break.ensures (marks.loop_jump c.in-Break.at) (search (rules, mark.the_lemmas)) r)

pub statement-returns-in_ok-chain-in-Guard : goal.statement-returns-in_ok-chain-in-Guard
statement-returns-in_ok-chain-in-Guard t c = λ r. grind (arith, common_steps, the_lemmas, c.jump-in-Guard.ensures r)

pub branches-arm-requires-in-loop-arm : goal.branches-arm-requires-in-loop-arm
branches-arm-requires-in-loop-arm t c = grind (arith, common_steps, the_lemmas)

pub branches-loop-arm-preserved : goal.branches-loop-arm-preserved
branches-loop-arm-preserved t c = grind (arith, common_steps, the_lemmas)

pub branches-returns : goal.branches-returns
branches-returns t c = grind (arith, common_steps, the_lemmas)

pub call-expression-requires : goal.call-expression-requires
call-expression-requires t c = grind (arith, common_steps, the_lemmas)

pub call-loop-argument-preserved : goal.call-loop-argument-preserved
call-loop-argument-preserved t c = grind (arith, common_steps, the_lemmas)

pub call-returns : goal.call-returns
call-returns t c = grind (arith, common_steps, the_lemmas)

pub chain-expression-requires-in-loop-term : goal.chain-expression-requires-in-loop-term
chain-expression-requires-in-loop-term t c = grind (arith, common_steps, the_lemmas)

pub chain-loop-term-preserved : goal.chain-loop-term-preserved
chain-loop-term-preserved t c = grind (arith, common_steps, the_lemmas)

pub chain-returns : goal.chain-returns
chain-returns t c = grind (arith, common_steps, the_lemmas)

pub expression-branches-requires : goal.expression-branches-requires
expression-branches-requires t c = grind (arith, common_steps, the_lemmas)

pub expression-call-requires : goal.expression-call-requires
expression-call-requires t c = grind (arith, common_steps, the_lemmas)

pub expression-chain-requires : goal.expression-chain-requires
expression-chain-requires t c = grind (arith, common_steps, the_lemmas)

pub expression-expression-requires : goal.expression-expression-requires
expression-expression-requires t c = grind (arith, common_steps, the_lemmas)

pub expression-expression-requires-in-Group : goal.expression-expression-requires-in-Group
expression-expression-requires-in-Group t c = grind (arith, common_steps, the_lemmas)

pub expression-expression-requires-in-While : goal.expression-expression-requires-in-While
expression-expression-requires-in-While t c = grind (arith, common_steps, the_lemmas)

pub expression-for_scope-requires : goal.expression-for_scope-requires
expression-for_scope-requires t c = grind (arith, common_steps, the_lemmas)

pub expression-inside-requires : goal.expression-inside-requires
expression-inside-requires t c = grind (arith, common_steps, the_lemmas)

pub expression-inside-requires-in-Spawn : goal.expression-inside-requires-in-Spawn
expression-inside-requires-in-Spawn t c = grind (arith, common_steps, the_lemmas)

pub expression-loop_scope-requires : goal.expression-loop_scope-requires
expression-loop_scope-requires t c = grind (arith, common_steps, the_lemmas)

pub expression-println-requires : goal.expression-println-requires
expression-println-requires t c = grind (arith, common_steps, the_lemmas)

pub expression-returns-in-Atomic : goal.expression-returns-in-Atomic
expression-returns-in-Atomic t c = search (rules, the_lemmas)

pub expression-returns-in-Atomic-2 : goal.expression-returns-in-Atomic-2
expression-returns-in-Atomic-2 t c = grind (arith, common_steps, the_lemmas)

pub expression-returns-in-Atomic-3 : goal.expression-returns-in-Atomic-3
expression-returns-in-Atomic-3 t c = grind (arith, common_steps, the_lemmas)

pub expression-returns-in-Atomic-4 : goal.expression-returns-in-Atomic-4
expression-returns-in-Atomic-4 t c = grind (arith, common_steps, the_lemmas)

pub expression-returns-in-Group : goal.expression-returns-in-Group
expression-returns-in-Group t c = search (rules, the_lemmas)

pub expression-returns-in-Interpolation : goal.expression-returns-in-Interpolation
expression-returns-in-Interpolation t c = search (rules, the_lemmas)

pub expression-returns-in-Name : goal.expression-returns-in-Name
expression-returns-in-Name t c = search (rules, the_lemmas)

pub expression-returns-in-Number : goal.expression-returns-in-Number
expression-returns-in-Number t c = search (rules, the_lemmas)

pub expression-returns-in-Number-2 : goal.expression-returns-in-Number-2
expression-returns-in-Number-2 t c = search (rules, the_lemmas)

pub expression-returns-in-Number-3 : goal.expression-returns-in-Number-3
expression-returns-in-Number-3 t c = search (rules, the_lemmas)

pub expression-returns-in-Number-4 : goal.expression-returns-in-Number-4
expression-returns-in-Number-4 t c = search (rules, the_lemmas)

pub expression-returns-in-Power : goal.expression-returns-in-Power
expression-returns-in-Power t c = search (rules, the_lemmas)

pub expression-returns-in-RandomIn : goal.expression-returns-in-RandomIn
expression-returns-in-RandomIn t c = search (rules, the_lemmas)

pub expression-returns-in-RandomIn-2 : goal.expression-returns-in-RandomIn-2
expression-returns-in-RandomIn-2 t c = search (rules, the_lemmas)

pub expression-returns-in-RandomIn-3 : goal.expression-returns-in-RandomIn-3
expression-returns-in-RandomIn-3 t c = search (rules, the_lemmas)

pub expression-returns-in-RandomIn-4 : goal.expression-returns-in-RandomIn-4
expression-returns-in-RandomIn-4 t c = search (rules, the_lemmas)

pub expression-returns-in-Spawn : goal.expression-returns-in-Spawn
expression-returns-in-Spawn t c = search (rules, the_lemmas)

pub expression-returns-in-Sync : goal.expression-returns-in-Sync
expression-returns-in-Sync t c = search (rules, the_lemmas)

pub expression-returns-in_ok-two-in-Conditional : goal.expression-returns-in_ok-two-in-Conditional
expression-returns-in_ok-two-in-Conditional t c = search (rules, the_lemmas)

pub expression-statements-requires : goal.expression-statements-requires
expression-statements-requires t c = grind (arith, common_steps, the_lemmas)

pub expression-two-requires : goal.expression-two-requires
expression-two-requires t c = grind (arith, common_steps, the_lemmas)

pub expression-two-requires-in-Conditional : goal.expression-two-requires-in-Conditional
expression-two-requires-in-Conditional t c = grind (arith, common_steps, the_lemmas)

pub expression-two-requires-in-ForRange : goal.expression-two-requires-in-ForRange
expression-two-requires-in-ForRange t c = grind (arith, common_steps, the_lemmas)

pub item-expression-requires : goal.item-expression-requires
item-expression-requires t c = grind (arith, common_steps, the_lemmas)

pub item-returns-in-Text : goal.item-returns-in-Text
item-returns-in-Text t c = search (rules, the_lemmas)

pub item-returns-in-Value : goal.item-returns-in-Value
item-returns-in-Value t c = search (rules, the_lemmas)

pub jump-expression-requires : goal.jump-expression-requires
jump-expression-requires t c = grind (arith, common_steps, the_lemmas)

pub println-item-requires : goal.println-item-requires
println-item-requires t c = grind (arith, common_steps, the_lemmas)

pub println-loop-item-preserved : goal.println-loop-item-preserved
println-loop-item-preserved t c = grind (arith, common_steps, the_lemmas)

pub println-returns : goal.println-returns
println-returns t c = grind (arith, common_steps, the_lemmas)

pub statement-chain-requires : goal.statement-chain-requires
statement-chain-requires t c = grind (arith, common_steps, the_lemmas)

pub statement-expression-requires : goal.statement-expression-requires
statement-expression-requires t c = grind (arith, common_steps, the_lemmas)

pub statement-expression-requires-in-Expression : goal.statement-expression-requires-in-Expression
statement-expression-requires-in-Expression t c = grind (arith, common_steps, the_lemmas)

pub statement-jump-requires : goal.statement-jump-requires
statement-jump-requires t c = grind (arith, common_steps, the_lemmas)

pub statement-jump-requires-in-Guard : goal.statement-jump-requires-in-Guard
statement-jump-requires-in-Guard t c = grind (arith, common_steps, the_lemmas)

pub statement-returns-in-Expression : goal.statement-returns-in-Expression
statement-returns-in-Expression t c = search (rules, the_lemmas)

pub statement-returns-in-Jump : goal.statement-returns-in-Jump
statement-returns-in-Jump t c = search (rules, the_lemmas)

pub statement-returns-in-Store : goal.statement-returns-in-Store
statement-returns-in-Store t c = search (rules, the_lemmas)

pub statements-loop-statement-preserved : goal.statements-loop-statement-preserved
statements-loop-statement-preserved t c = grind (arith, common_steps, the_lemmas)

pub statements-returns : goal.statements-returns
statements-returns t c = grind (arith, common_steps, the_lemmas)

pub statements-statement-requires : goal.statements-statement-requires
statements-statement-requires t c = grind (arith, common_steps, the_lemmas)

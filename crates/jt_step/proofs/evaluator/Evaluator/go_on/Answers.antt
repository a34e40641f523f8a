-- A further turn begins with the loop's condition, or with a test of its number.
use Rattle.std.proofs.Common.{arith, rules, SFits, w64}
use Rattle.std.proofs.lemmas.Int.{to_z-of_z}
use Rattle.jt_step.specs.Stack.{state_of}
use Rattle.jt_step.proofs.AtOnce.{turn_light, while_reads}
use Rattle.jt_step.proofs.Loops.{while_on, range_on, range_light}
use Rattle.jt_step.proofs.Weights.{weight_push}
use Rattle.jt_step.proofs.evaluator.Evaluator.go_on.Goals as goal

pub returns-in-Some-clause-same : goal.returns-in-Some-clause-same
returns-in-Some-clause-same c = let reads = rw c.in-Some.is at c.in_ok-v-in-While.ensures in λ program rs. rw c.turn_of.ensures (while_reads program c.args.self.now _ _ _ _ _ _ c.in-While.is reads rs)

pub returns-in-Some-clause-less : goal.returns-in-Some-clause-less
returns-in-Some-clause-less c = rw (c.turn_of.ensures, c.in-While.is) (omega (arith, turn_light))

pub returns-in_ok-push-in-None-clause-same : goal.returns-in_ok-push-in-None-clause-same
returns-in_ok-push-in-None-clause-same c = λ program rs. while_on program _ _ _ _ _ _ _ _ c.in-While.is c.in_ok-push-in-None.ensures.items

pub returns-in_ok-push-in-None-clause-less : goal.returns-in_ok-push-in-None-clause-less
returns-in_ok-push-in-None-clause-less c = rw (c.in_ok-push-in-None.ensures.items, weight_push, c.in-While.is) (omega arith)

pub returns-in-Range-clause-same : goal.returns-in-Range-clause-same
returns-in-Range-clause-same c =
    let fi : SFits w64 c.in-Range.i = search rules in
    let fl : SFits w64 c.in-Range.last = search rules in
    let h = simp to_z-of_z at c.next_number.ensures in
    λ program rs. rw h (range_on program c.args.self.now.frames.items _ _ _ _ _ _ (state_of c.args.self.now rs) c.in-Range.is)

pub returns-in-Range-clause-less : goal.returns-in-Range-clause-less
returns-in-Range-clause-less c = rw (c.next_number.ensures, c.in-Range.is) (omega (arith, range_light))

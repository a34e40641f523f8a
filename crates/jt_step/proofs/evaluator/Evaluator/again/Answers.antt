-- A turn is taken, and the loop's own variables are renewed.
use Rattle.std.proofs.Common.{◌≡◌, refl, rules, w64}
use mir.Val.{to_z, of_z}
use Rattle.std.proofs.lemmas.Bool.{lt-ltb}
use Rattle.jt_step.proofs.Begins.{loop_begins}
use Rattle.jt_step.proofs.evaluator.Evaluator.again.Goals as goal

pub returns-in_ok-push-in-While : goal.returns-in_ok-push-in-While
returns-in_ok-push-in-While c = λ program.
    loop_begins program _ _ c.args.turns _ (rw c.in-While.is refl) (lt-ltb 0 c.args.self.now.turns c.requires) c.in_ok-push-in-While.ensures.items
    (λ rs. rw (c.in-While.is, c.in_ok-renew-in-While.ensures) refl) refl

pub returns-in_ok-push-in-Range : goal.returns-in_ok-push-in-Range
returns-in_ok-push-in-Range c = λ program.
    let v : to_z w64 (of_z w64 c.in-Range.i) ≡ c.in-Range.i = search rules in
    loop_begins program _ _ c.args.turns _ (rw c.in-Range.is refl) (lt-ltb 0 c.args.self.now.turns c.requires) c.in_ok-push-in-Range.ensures.items
    (λ rs. rw (c.in-Range.is, c.assign.ensures, c.in_ok-renew-in-Range.ensures, v) refl) refl

-- Lists with one part more, and arms with more behind them.
use Rattle.std.proofs.Common.{◌≡◌, List, [], ◌∷◌, ◌++◌, refl, sym, ap, ◌∙◌}
use Rattle.std.specs.Prelude.{map}
use Rattle.jt_lowered.specs.Nodes.{before}
use Rattle.jt_program.specs.declared.code.Arm.{Arm}
use Rattle.jt_program.specs.Plan.{Plan, Plans, Choices}
use Rattle.jt_program.specs.Plan as plan
use Rattle.jt_program.specs.View.{plans_of, arm_plan, choices_of}

pub map_pushed : {A B : Type 0} (f : A → B) (xs : List A) (x : A) → map f (xs ++ x ∷ []) ≡ map f xs ++ f x ∷ []
map_pushed f [] x = refl
map_pushed f (y ∷ xs) x = ap (λ ys. f y ∷ ys) (map_pushed f xs x)

before_one : (ps : List Plan) (p : Plan) → before (plans_of ps) (plan.plan p plan.no_plans) ≡ plans_of (ps ++ p ∷ [])
before_one [] p = refl
before_one (q ∷ ps) p = ap (plan.plan q) (before_one ps p)

pub before_pushed : (ps new : List Plan) (p : Plan) → new ≡ ps ++ p ∷ [] → plans_of new ≡ before (plans_of ps) (plan.plan p plan.no_plans)
before_pushed ps new p e = ap plans_of e ∙ sym (before_one ps p)

-- choices, and these behind them
abbrev choices_before : List (Plan × Plan) → Choices → Choices
choices_before [] last = last
choices_before (a ∷ arms) last = plan.choice a.0 a.1 (choices_before arms last)

joined : (arms more : List Arm) → choices_of (map arm_plan (arms ++ more)) ≡ choices_before (map arm_plan arms) (choices_of (map arm_plan more))
joined [] more = refl
joined (a ∷ arms) more = ap (plan.choice (arm_plan a).0 (arm_plan a).1) (joined arms more)

-- one arm, and more behind it
pub arms_joined : (arms more whole : List Arm) (q : Plan × Plan) → map arm_plan arms ≡ [] ++ q ∷ [] → whole ≡ arms ++ more → choices_of (map arm_plan whole) ≡ plan.choice q.0 q.1 (choices_of (map arm_plan more))
arms_joined arms more whole q e f = ap (λ ws. choices_of (map arm_plan ws)) f ∙ (joined arms more ∙ ap (λ qs. choices_before qs (choices_of (map arm_plan more))) e)

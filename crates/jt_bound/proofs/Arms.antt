-- What stands behind `else` is none of the arms, and the arms are none of it.
use Rattle.std.proofs.Common.{◌≡◌, List, [], ◌∷◌, Option, Some, None, refl, sym, ap, ◌∙◌, rules}
use Rattle.jt_syntax.specs.Tree.{Tree, Arms, Steps}
use Rattle.jt_syntax.specs.Tree as tree
use Rattle.jt_syntax.specs.View.{view, arm_view, arms_of, stmt_views}
use Rattle.jt_syntax.specs.declared.script.Arm as script_arm
use Rattle.jt_syntax.specs.declared.script.Expr.{the_lemmas as expr_lemmas}
use Rattle.jt_syntax.specs.declared.script.Stmt.{Stmt}
use Rattle.jt_program.specs.Plan.{Plan, Plans, Choices}
use Rattle.jt_program.specs.Plan as plan
use Rattle.jt_bound.specs.Behind.{choice_before, last_view}
use Rattle.jt_bound.specs.Bound.{Numbers}
use Rattle.jt_bound.specs.Made.{WalkResult, made, with, both, three, four}
use Rattle.jt_bound.specs.States.{WalkState}
use Rattle.jt_bound.specs.Walked.{walked, walked_arms, walked_otherwise, walked_steps}

abbrev applied : (Choices → Choices) → Choices → Choices
applied f arms = f arms

-- an arm's choice, before the arms that are left
abbrev arm_choice : Plan → Plans → Choices → Choices
arm_choice p ps arms = plan.choice p (plan.block ps) arms

-- an arm's parts, and what is made of the arms behind it
abbrev arm_first : Numbers → WalkState → Tree × Steps → WalkResult WalkState (Choices → Choices)
arm_first x s a = both arm_choice (walked x s a.0) (λ s. walked_steps x s a.1)

arms_else : (x : Numbers) (s : WalkState) (arms : List (Tree × Steps)) (last : Option (List Stmt)) → walked_arms x s (arms_of arms (last_view last)) ≡ walked_arms x s (arms_of arms tree.no_arms)
arms_else x s [] None = refl
arms_else x s [] (Some ss) = refl
arms_else x s (a ∷ arms) last = ap (with (arm_first x s a).it) (arms_else x (arm_first x s a).state arms last)

otherwise_alone : (x : Numbers) (s : WalkState) (arms : List (Tree × Steps)) (last : Arms) → walked_otherwise x s (arms_of arms last) ≡ walked_otherwise x s last
otherwise_alone x s [] last = refl
otherwise_alone x s (a ∷ arms) last = otherwise_alone x s arms last

-- an arm by its parts
arm_view_parts : (a : script_arm.Arm) → arm_view a ≡ (view a.condition, stmt_views a.body)
arm_view_parts a = search (rules, expr_lemmas)

pub arm_made : (x : Numbers) (s s1 s2 : WalkState) (a : script_arm.Arm) (body : List Stmt) (p q : Plan) (rest : WalkState → WalkResult WalkState Choices)
    → walked x s (view a.condition) ≡ made p s1 → with plan.block (walked_steps x s1 (stmt_views body)) ≡ made q s2 → body ≡ a.body
    → both applied (arm_first x s (arm_view a)) rest ≡ with (choice_before (p, q)) (rest s2)
arm_made x s s1 s2 a body p q rest h1 h2 e =
    let one : walked x s (arm_view a).0 ≡ made p s1 = ap (λ v. walked x s v.0) (arm_view_parts a) ∙ h1 in
    let two : with plan.block (walked_steps x s1 (arm_view a).1) ≡ made q s2 =
    ap (λ v. with plan.block (walked_steps x s1 v.1)) (arm_view_parts a) ∙ (ap (λ b. with plan.block (walked_steps x s1 (stmt_views b))) (sym e) ∙ h2) in
    ap (λ m. both applied (both arm_choice m (λ s. walked_steps x s (arm_view a).1)) rest) one
    ∙ ap (λ m. both (plan.choice p) m rest) two

-- a branch of its parts
abbrev pub branch_of : Plan → Plan → Choices → Plan → Plan
branch_of t b arms last = plan.branch (plan.choice t b arms) last

abbrev block_branch : Plan → Plans → Choices → Plan → Plan
block_branch t ps arms last = branch_of t (plan.block ps) arms last

pub branch_made : (x : Numbers) (s s1 s2 s3 s4 : WalkState) (t : Tree) (ss : Steps) (arms : List (Tree × Steps)) (last : Option (List Stmt)) (p b : Plan) (qs : Choices) (q : Plan)
    → walked x s t ≡ made p s1 → with plan.block (walked_steps x s1 ss) ≡ made b s2 → walked_arms x s2 (arms_of arms tree.no_arms) ≡ made qs s3 → walked_otherwise x s3 (last_view last) ≡ made q s4
    → walked x s (tree.branches t ss (arms_of arms (last_view last))) ≡ made (branch_of p b qs q) s4
branch_made x s s1 s2 s3 s4 t ss arms last p b qs q h1 h2 h3 h4 =
    ap (λ m. four block_branch m (λ s. walked_steps x s ss) (λ s. walked_arms x s (arms_of arms (last_view last))) (λ s. walked_otherwise x s (arms_of arms (last_view last)))) h1
    ∙ (ap (λ m. three (branch_of p) m (λ s. walked_arms x s (arms_of arms (last_view last))) (λ s. walked_otherwise x s (arms_of arms (last_view last)))) h2
    ∙ (ap (λ m. both (branch_of p b) m (λ s. walked_otherwise x s (arms_of arms (last_view last)))) (arms_else x s2 arms last ∙ h3)
    ∙ ap (with (branch_of p b qs)) (otherwise_alone x s3 arms (last_view last) ∙ h4)))

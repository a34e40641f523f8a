-- What a walk makes, where what is made of its parts comes out well.
use Rattle.std.proofs.Common.{◌≡◌, ℕ, List, [], ◌∷◌, ◌++◌, Result, Ok, Err, IfOk, OnOk, ap, sym, ◌∙◌}
use Rattle.jt_program.specs.declared.code.Code.{Code}
use Rattle.jt_syntax.specs.Tree.{TopTree}
use Rattle.jt_program.specs.Plan.{Plan, Plans, BodyPlan}
use Rattle.jt_program.specs.Plan as plan
use Rattle.jt_program.specs.View.{plan_of}
use Rattle.jt_bound.specs.Behind.{behind, with_last}
use Rattle.jt_bound.specs.Made.{WalkResult, made, with, both}
use Rattle.jt_bound.specs.Programs.{one_more}
use Rattle.jt_lowered.specs.Nodes.{body_of}
use Rattle.jt_bound.specs.States.{WalkState, count, within, bodied}
use Rattle.jt_bound.proofs.Behind.{with_pushed}

pub code_made : {E : Type 0} (r : Result Code E) (m : WalkResult WalkState Plan) (q : Plan) (s : WalkState) → m ≡ made q s → IfOk r (λ p. plan_of p ≡ q) → IfOk r (λ p. m ≡ made (plan_of p) s)
code_made (Ok p) m q s h e = h ∙ ap (λ q. made q s) (sym e)
code_made (Err x) m q s h e = e

pub list_made : {A E B : Type 0} (r : Result A E) (m : WalkResult WalkState (List B)) (xs ys : List B) (s : WalkState) → m ≡ made xs s → OnOk r (ys ≡ xs) → OnOk r (m ≡ made ys s)
list_made (Ok a) m xs ys s h e = h ∙ ap (λ q. made q s) (sym e)
list_made (Err x) m xs ys s h e = e

-- a part of the main task goes behind the others, and the rest behind it
part_put : (old new : List Plan) (m : WalkResult WalkState Plan) (q : Plan) (s : WalkState) (rest : WalkState → WalkResult WalkState Plans) → m ≡ made q s → new ≡ old ++ q ∷ []
    → with (behind plan.plan new) (rest s) ≡ with (behind plan.plan old) (both plan.plan m rest)
part_put old new m q s rest h e =
    ap (λ ps. with (behind plan.plan ps) (rest s)) e
    ∙ (with_pushed plan.plan old q (rest s) ∙ ap (λ m. with (behind plan.plan old) (both plan.plan m rest)) (sym h))

pub part_made : {A E : Type 0} (r : Result A E) (old new : List Plan) (m : WalkResult WalkState Plan) (q : Plan) (s : WalkState) (rest : WalkState → List TopTree → WalkResult WalkState Plans) → m ≡ made q s → OnOk r (new ≡ old ++ q ∷ [])
    → OnOk r ((ts : List TopTree) → with (behind plan.plan new) (rest s ts) ≡ with (behind plan.plan old) (both plan.plan m (λ t. rest t ts)))
part_made (Ok a) old new m q s rest h e = λ ts. part_put old new m q s (λ t. rest t ts) h e
part_made (Err x) old new m q s rest h e = e

function_put : (old new : List BodyPlan) (w : WalkResult WalkState BodyPlan) (s : WalkState) (rest : WalkState → WalkResult WalkState (List BodyPlan)) → with (with_last old) w ≡ made new s
    → with (behind one_more new) (rest s) ≡ with (behind one_more old) (both one_more w rest)
function_put old new w s rest h =
    ap (λ m. with (behind one_more m.it) (rest m.state)) (sym h) ∙ with_pushed one_more old w.it (rest w.state)

-- a function of n variables goes behind the others, and the rest behind it
pub function_made : {A E : Type 0} (r : Result A E) (old new : List BodyPlan) (s later : WalkState) (m : WalkResult WalkState Plan) (n : ℕ) (p : Plan) (rest : WalkState → List TopTree → WalkResult WalkState (List BodyPlan))
    → n ≡ count s → within m ≡ made p later → OnOk r (new ≡ with_last old (body_of n p))
    → OnOk r ((ts : List TopTree) → with (behind one_more new) (rest later ts) ≡ with (behind one_more old) (both one_more (bodied s m) (λ t. rest t ts)))
function_made (Ok a) old new s later m n p rest c h e =
    let put : with (with_last old) (bodied s m) ≡ made new later =
    ap (λ u. with (with_last old) (with (body_of (count s)) u)) h ∙ (ap (λ k. made (with_last old (body_of k p)) later) (sym c) ∙ ap (λ bs. made bs later) (sym e)) in
    λ ts. function_put old new (bodied s m) later (λ t. rest t ts) put
function_made (Err x) old new s later m n p rest c h e = e

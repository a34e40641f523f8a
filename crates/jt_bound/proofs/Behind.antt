-- One part more, and nothing behind the parts.
use Rattle.std.proofs.Common.{◌≡◌, List, [], ◌∷◌, ◌++◌, ℕ, suc, ◌+◌, ◌<◌, ◌≤◌, length, get_or, drop, refl, sym, ap, subst, ◌∙◌, arith, drop-cons}
use Rattle.std.proofs.lemmas.List.{drop_all}
use Rattle.jt_program.specs.Plan.{Plan, BodyPlan}
use Rattle.jt_program.specs.Plan as plan
use Rattle.jt_program.specs.View.{PiecePlan, plans_of, choices_of, piece_before, pieces_of}
use Rattle.jt_bound.specs.Behind.{behind, choice_before}
use Rattle.jt_bound.specs.Made.{WalkResult, made, with}
use Rattle.jt_bound.specs.Programs.{one_more}

pushed : {A B : Type 0} (f : A → B → B) (xs : List A) (x : A) (last : B) → behind f (xs ++ x ∷ []) last ≡ behind f xs (f x last)
pushed f [] x last = refl
pushed f (y ∷ xs) x last = ap (f y) (pushed f xs x last)

pub with_pushed : {S A B : Type 0} (f : A → B → B) (xs : List A) (x : A) (m : WalkResult S B) → with (behind f (xs ++ x ∷ [])) m ≡ with (behind f xs) (with (f x) m)
with_pushed f xs x m = ap (λ b. made b m.state) (pushed f xs x m.it)

-- one item more: what is made of the rest from it on is what is made with it of the rest behind it
pub taken : {C S B T : Type 0} (h : C → S → List T → WalkResult S B) (xs : List T) (i : ℕ) (x : T) (done new : C) (earlier later : S) (whole : WalkResult S B)
    → i < length xs → x ≡ get_or xs i x → ((rest : List T) → h done earlier (x ∷ rest) ≡ h new later rest)
    → h done earlier (drop i xs) ≡ whole → h new later (drop (i + 1) xs) ≡ whole
taken h xs i x done new earlier later whole below is unrolled inv =
    let cons : drop i xs ≡ x ∷ drop (suc i) xs = drop-cons xs i x below ∙ ap (λ y. y ∷ drop (suc i) xs) (sym is) in
    let next : suc i ≡ i + 1 = omega arith in
    subst (λ n. h new later (drop n xs) ≡ whole) next (sym (ap (h done earlier) cons ∙ unrolled (drop (suc i) xs)) ∙ inv)

-- one part more: what the list gives is what the part does, before what the rest gives
pub grown : {S A B T : Type 0} (f : A → B → B) (g : S → List T → WalkResult S B) (xs : List T) (i : ℕ) (x : T) (done new : List A) (a : A) (earlier later : S) (whole : WalkResult S B)
    → i < length xs → x ≡ get_or xs i x → new ≡ done ++ a ∷ [] → ((rest : List T) → g earlier (x ∷ rest) ≡ with (f a) (g later rest))
    → with (behind f done) (g earlier (drop i xs)) ≡ whole → with (behind f new) (g later (drop (i + 1) xs)) ≡ whole
grown f g xs i x done new a earlier later whole below is more unrolled inv =
    taken (λ ys s rest. with (behind f ys) (g s rest)) xs i x done new earlier later whole below is
    (λ rest. ap (with (behind f done)) (unrolled rest) ∙ (sym (with_pushed f done a (g later rest)) ∙ ap (λ ys. with (behind f ys) (g later rest)) (sym more)))
    inv

-- nothing is left
pub none_left : {C S B T : Type 0} (h : C → S → List T → WalkResult S B) (xs : List T) (i : ℕ) (done : C) (later : S) (whole : WalkResult S B) → length xs ≤ i → h done later (drop i xs) ≡ whole → whole ≡ h done later []
none_left h xs i done later whole past inv = sym inv ∙ ap (h done later) (drop_all i xs past)

pub ended : {S A B T : Type 0} (f : A → B → B) (g : S → List T → WalkResult S B) (xs : List T) (i : ℕ) (done : List A) (later : S) (last : B) (whole : WalkResult S B)
    → length xs ≤ i → g later [] ≡ made last later → with (behind f done) (g later (drop i xs)) ≡ whole → whole ≡ made (behind f done last) later
ended f g xs i done later last whole past none inv = none_left (λ ys s rest. with (behind f ys) (g s rest)) xs i done later whole past inv ∙ ap (with (behind f done)) none

pub plans_behind : (ps : List Plan) → behind plan.plan ps plan.no_plans ≡ plans_of ps
plans_behind [] = refl
plans_behind (p ∷ ps) = ap (plan.plan p) (plans_behind ps)

pub choices_behind : (arms : List (Plan × Plan)) → behind choice_before arms plan.no_choices ≡ choices_of arms
choices_behind [] = refl
choices_behind (a ∷ arms) = ap (choice_before a) (choices_behind arms)

pub pieces_behind : (ps : List PiecePlan) → behind piece_before ps plan.no_pieces ≡ pieces_of ps
pieces_behind [] = refl
pieces_behind (p ∷ ps) = ap (piece_before p) (pieces_behind ps)

pub bodies_behind : (bs : List BodyPlan) → behind one_more bs [] ≡ bs
bodies_behind [] = refl
bodies_behind (b ∷ bs) = ap (one_more b) (bodies_behind bs)

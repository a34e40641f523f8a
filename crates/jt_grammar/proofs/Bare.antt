-- Trees without their places have none to lose, and are nested as deeply as with them.
use Rattle.std.proofs.Common.{◌≡◌, ℕ, zero, suc, List, [], ◌∷◌, map, refl, sym, ap, subst, ◌∙◌}
use Rattle.jt_syntax.specs.Tree.{Tree, Trees, Terms, Arms, Leap, Step, Steps, Form, TopTree}
use Rattle.jt_syntax.specs.Tree as tree
use Rattle.jt_syntax.specs.declared.script.Identifier.{Identifier}
use Rattle.jt_grammar.specs.Nesting.{Opened, Within, AllWithin, TermsWithin, ArmsWithin, LeapWithin, StepWithin, StepsWithin, FormWithin, TopsWithin}
use Rattle.jt_grammar.specs.Printed.{bare_identifier, bare, bare_trees, bare_terms, bare_arms, bare_leap, bare_step, bare_steps, bare_form, bare_script}
use Rattle.jt_grammar.proofs.Places.{ap2, ap3}

both : {A A' B B' : Type 0} → A ≡ A' → B ≡ B' → (A × B) ≡ (A' × B')
both {A'} {B} p q = ap (λ X. X × B) p ∙ ap (λ Y. A' × Y) q

all_three : {A A' B B' C C' : Type 0} → A ≡ A' → B ≡ B' → C ≡ C' → (A × B × C) ≡ (A' × B' × C')
all_three {A'} {B} {B'} {C} p q r = ap (λ X. X × B × C) p ∙ (ap (λ Y. A' × Y × C) q ∙ ap (λ Z. A' × B' × Z) r)

opened : (d : ℕ) (P Q : ℕ → Type 0) → ((k : ℕ) → P k ≡ Q k) → Opened d P ≡ Opened d Q
opened zero P Q e = refl
opened (suc d) P Q e = e d

mutual
  within-bare : (e : Tree) (d : ℕ) → Within d (bare e) ≡ Within d e
  within-bare (tree.group e) d = opened d _ _ (within-bare e)
  within-bare (tree.call i es) d = opened d _ _ (all_within-bare es)
  within-bare (tree.println es) d = opened d _ _ (all_within-bare es)
  within-bare (tree.channel e) d = opened d _ _ (within-bare e)
  within-bare (tree.atomic e) d = opened d _ _ (within-bare e)
  within-bare (tree.random_in a b) d = opened d _ _ (λ k. both (within-bare a k) (within-bare b k))
  within-bare (tree.notify e b) d = opened d _ _ (within-bare e)
  within-bare (tree.power a b) d = both (within-bare a d) (opened d _ _ (within-bare b))
  within-bare (tree.unary o e) d = opened d _ _ (within-bare e)
  within-bare (tree.chain c e es) d = both (within-bare e d) (terms_within-bare es d)
  within-bare (tree.conditional c a b) d = both (within-bare c d) (opened d _ _ (λ k. both (within-bare a k) (within-bare b k)))
  within-bare (tree.block ss) d = opened d _ _ (steps_within-bare ss)
  within-bare (tree.branches c ss arms) d = opened d _ _ (λ k. all_three (within-bare c k) (steps_within-bare ss k) (arms_within-bare arms k))
  within-bare (tree.while c ss) d = opened d _ _ (λ k. both (within-bare c k) (steps_within-bare ss k))
  within-bare (tree.for_range i a b ss) d = opened d _ _ (λ k. all_three (within-bare a k) (within-bare b k) (steps_within-bare ss k))
  within-bare (tree.for_each i e ss) d = opened d _ _ (λ k. both (within-bare e k) (steps_within-bare ss k))
  within-bare (tree.spawn at p e) d = opened d _ _ (within-bare e)
  within-bare (tree.async at e) d = opened d _ _ (within-bare e)
  within-bare (tree.sync e) d = opened d _ _ (within-bare e)
  within-bare (tree.threads at s i a b ss) d = opened d _ _ (λ j. opened j _ _ (λ k. all_three (within-bare a k) (within-bare b k) (steps_within-bare ss k)))
  within-bare e d = refl

  all_within-bare : (es : Trees) (d : ℕ) → AllWithin d (bare_trees es) ≡ AllWithin d es
  all_within-bare tree.no_trees d = refl
  all_within-bare (tree.tree e es) d = both (within-bare e d) (all_within-bare es d)

  terms_within-bare : (es : Terms) (d : ℕ) → TermsWithin d (bare_terms es) ≡ TermsWithin d es
  terms_within-bare tree.no_terms d = refl
  terms_within-bare (tree.term s e es) d = both (within-bare e d) (terms_within-bare es d)

  arms_within-bare : (arms : Arms) (d : ℕ) → ArmsWithin d (bare_arms arms) ≡ ArmsWithin d arms
  arms_within-bare tree.no_arms d = refl
  arms_within-bare (tree.otherwise ss) d = steps_within-bare ss d
  arms_within-bare (tree.arm c ss arms) d = all_three (within-bare c d) (steps_within-bare ss d) (arms_within-bare arms d)

  leap_within-bare : (j : Leap) (d : ℕ) → LeapWithin d (bare_leap j) ≡ LeapWithin d j
  leap_within-bare (tree.return_value at e) d = within-bare e d
  leap_within-bare j d = refl

  step_within-bare : (x : Step) (d : ℕ) → StepWithin d (bare_step x) ≡ StepWithin d x
  step_within-bare (tree.assign i o e) d = within-bare e d
  step_within-bare (tree.store i e) d = both refl (within-bare e d)
  step_within-bare (tree.jump j) d = leap_within-bare j d
  step_within-bare (tree.guard c e es j) d = all_three (within-bare e d) (terms_within-bare es d) (leap_within-bare j d)
  step_within-bare (tree.value e) d = within-bare e d

  steps_within-bare : (xs : Steps) (d : ℕ) → StepsWithin d (bare_steps xs) ≡ StepsWithin d xs
  steps_within-bare tree.no_steps d = refl
  steps_within-bare (tree.step x xs) d = both (step_within-bare x d) (steps_within-bare xs d)

form_within-bare : (f : Form) (d : ℕ) → FormWithin d (bare_form f) ≡ FormWithin d f
form_within-bare (tree.constant i e) d = within-bare e d
form_within-bare (tree.function i is ss) d = opened d _ _ (λ k. both refl (steps_within-bare ss k))
form_within-bare (tree.short i is e) d = both refl (within-bare e d)
form_within-bare (tree.plain s) d = step_within-bare s d
form_within-bare f d = refl

tops_within-bare : (tops : List TopTree) (d : ℕ) → TopsWithin d (bare_script tops) ≡ TopsWithin d tops
tops_within-bare [] d = refl
tops_within-bare (x ∷ tops) d = both (form_within-bare x.1 d) (tops_within-bare tops d)

-- scripts that are equal up to places are nested as deeply
pub same_within : (tops others : List TopTree) (d : ℕ) → bare_script others ≡ bare_script tops → TopsWithin d tops → TopsWithin d others
same_within tops others d e a = subst (λ X. X) (sym (tops_within-bare tops d) ∙ (ap (TopsWithin d) (sym e) ∙ tops_within-bare others d)) a

-- ---- no places to lose

mutual
  bare-bare : (e : Tree) → bare (bare e) ≡ bare e
  bare-bare (tree.group e) = ap tree.group (bare-bare e)
  bare-bare (tree.call i es) = ap (tree.call (bare_identifier i)) (trees-bare es)
  bare-bare (tree.println es) = ap tree.println (trees-bare es)
  bare-bare (tree.channel e) = ap tree.channel (bare-bare e)
  bare-bare (tree.atomic e) = ap tree.atomic (bare-bare e)
  bare-bare (tree.random_in a b) = ap2 tree.random_in (bare-bare a) (bare-bare b)
  bare-bare (tree.notify e b) = ap (λ z. tree.notify z b) (bare-bare e)
  bare-bare (tree.power a b) = ap2 tree.power (bare-bare a) (bare-bare b)
  bare-bare (tree.unary o e) = ap (tree.unary o) (bare-bare e)
  bare-bare (tree.chain c e es) = ap2 (tree.chain c) (bare-bare e) (terms-bare es)
  bare-bare (tree.conditional c a b) = ap3 tree.conditional (bare-bare c) (bare-bare a) (bare-bare b)
  bare-bare (tree.block ss) = ap tree.block (steps-bare ss)
  bare-bare (tree.branches c ss arms) = ap3 tree.branches (bare-bare c) (steps-bare ss) (arms-bare arms)
  bare-bare (tree.while c ss) = ap2 tree.while (bare-bare c) (steps-bare ss)
  bare-bare (tree.for_range i a b ss) = ap3 (tree.for_range (bare_identifier i)) (bare-bare a) (bare-bare b) (steps-bare ss)
  bare-bare (tree.for_each i e ss) = ap2 (tree.for_each (bare_identifier i)) (bare-bare e) (steps-bare ss)
  bare-bare (tree.spawn at p e) = ap (tree.spawn 0 p) (bare-bare e)
  bare-bare (tree.async at e) = ap (tree.async 0) (bare-bare e)
  bare-bare (tree.sync e) = ap tree.sync (bare-bare e)
  bare-bare (tree.threads at s i a b ss) = ap3 (tree.threads 0 s (bare_identifier i)) (bare-bare a) (bare-bare b) (steps-bare ss)
  bare-bare e = refl

  trees-bare : (es : Trees) → bare_trees (bare_trees es) ≡ bare_trees es
  trees-bare tree.no_trees = refl
  trees-bare (tree.tree e es) = ap2 tree.tree (bare-bare e) (trees-bare es)

  terms-bare : (es : Terms) → bare_terms (bare_terms es) ≡ bare_terms es
  terms-bare tree.no_terms = refl
  terms-bare (tree.term s e es) = ap2 (tree.term s) (bare-bare e) (terms-bare es)

  arms-bare : (arms : Arms) → bare_arms (bare_arms arms) ≡ bare_arms arms
  arms-bare tree.no_arms = refl
  arms-bare (tree.otherwise ss) = ap tree.otherwise (steps-bare ss)
  arms-bare (tree.arm c ss arms) = ap3 tree.arm (bare-bare c) (steps-bare ss) (arms-bare arms)

  leap-bare : (j : Leap) → bare_leap (bare_leap j) ≡ bare_leap j
  leap-bare (tree.return_value at e) = ap (tree.return_value 0) (bare-bare e)
  leap-bare j = refl

  step-bare : (x : Step) → bare_step (bare_step x) ≡ bare_step x
  step-bare (tree.assign i o e) = ap (tree.assign (bare_identifier i) o) (bare-bare e)
  step-bare (tree.store i e) = ap (tree.store (bare_identifier i)) (bare-bare e)
  step-bare (tree.jump j) = ap tree.jump (leap-bare j)
  step-bare (tree.guard c e es j) = ap3 (tree.guard c) (bare-bare e) (terms-bare es) (leap-bare j)
  step-bare (tree.value e) = ap tree.value (bare-bare e)

  steps-bare : (xs : Steps) → bare_steps (bare_steps xs) ≡ bare_steps xs
  steps-bare tree.no_steps = refl
  steps-bare (tree.step x xs) = ap2 tree.step (step-bare x) (steps-bare xs)

identifiers-bare : (is : List Identifier) → map bare_identifier (map bare_identifier is) ≡ map bare_identifier is
identifiers-bare [] = refl
identifiers-bare (i ∷ is) = ap (λ js. bare_identifier i ∷ js) (identifiers-bare is)

form-bare : (f : Form) → bare_form (bare_form f) ≡ bare_form f
form-bare tree.using_threads = refl
form-bare (tree.constant i e) = ap (tree.constant (bare_identifier i)) (bare-bare e)
form-bare (tree.function i is ss) = ap2 (tree.function (bare_identifier i)) (identifiers-bare is) (steps-bare ss)
form-bare (tree.short i is e) = ap2 (tree.short (bare_identifier i)) (identifiers-bare is) (bare-bare e)
form-bare (tree.plain s) = ap tree.plain (step-bare s)

pub script-bare : (tops : List TopTree) → bare_script (bare_script tops) ≡ bare_script tops
script-bare [] = refl
script-bare (x ∷ tops) = ap2 (λ f xs. (0, f) ∷ xs) (form-bare x.1) (script-bare tops)

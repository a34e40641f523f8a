-- Every tree is within some number of openers.
use Rattle.std.proofs.Common.{ℕ, zero, suc, ◌+◌, ◌≤◌, List, [], ◌∷◌, arith}
use Rattle.jt_syntax.specs.Tree.{Tree, Trees, Terms, Arms, Leap, Step, Steps, Form, TopTree}
use Rattle.jt_syntax.specs.Tree as tree
use Rattle.jt_grammar.specs.Nesting.{Opened, Within, AllWithin, TermsWithin, ArmsWithin, LeapWithin, StepWithin, StepsWithin, FormWithin, TopsWithin}

abbrev mutual
  height : Tree → ℕ
  height (tree.text t) = 0
  height (tree.number n) = 0
  height (tree.truth b) = 0
  height (tree.name i) = 0
  height (tree.interpolation at i) = 0
  height (tree.group e) = suc (height e)
  height (tree.call i es) = suc (heights es)
  height (tree.println es) = suc (heights es)
  height (tree.error t) = 1
  height tree.unbuffered = 1
  height (tree.channel e) = suc (height e)
  height (tree.atomic e) = suc (height e)
  height tree.least = 1
  height tree.greatest = 1
  height tree.random = 1
  height (tree.random_in a b) = suc (height a + height b)
  height (tree.notify e b) = suc (height e)
  height (tree.read i) = 1
  height (tree.power a b) = height a + suc (height b)
  height (tree.unary o e) = suc (height e)
  height (tree.chain c e es) = height e + terms_height es
  height (tree.conditional c a b) = height c + suc (height a + height b)
  height (tree.block ss) = suc (steps_height ss)
  height (tree.branches c ss arms) = suc (height c + (steps_height ss + arms_height arms))
  height (tree.while c ss) = suc (height c + steps_height ss)
  height (tree.for_range i a b ss) = suc (height a + (height b + steps_height ss))
  height (tree.for_each i e ss) = suc (height e + steps_height ss)
  height (tree.spawn at p e) = suc (height e)
  height (tree.async at e) = suc (height e)
  height (tree.sync e) = suc (height e)
  height (tree.threads at s i a b ss) = suc (suc (height a + (height b + steps_height ss)))

  heights : Trees → ℕ
  heights tree.no_trees = 0
  heights (tree.tree e es) = height e + heights es

  terms_height : Terms → ℕ
  terms_height tree.no_terms = 0
  terms_height (tree.term s e es) = height e + terms_height es

  arms_height : Arms → ℕ
  arms_height tree.no_arms = 0
  arms_height (tree.otherwise ss) = steps_height ss
  arms_height (tree.arm c ss arms) = height c + (steps_height ss + arms_height arms)

  leap_height : Leap → ℕ
  leap_height (tree.return_nothing at) = 0
  leap_height (tree.return_value at e) = height e
  leap_height (tree.break_loop at) = 0
  leap_height (tree.continue_loop at) = 0

  step_height : Step → ℕ
  step_height (tree.assign i o e) = height e
  step_height (tree.store i e) = suc (height e)
  step_height (tree.jump j) = leap_height j
  step_height (tree.guard c e es j) = height e + (terms_height es + leap_height j)
  step_height (tree.value e) = height e

  steps_height : Steps → ℕ
  steps_height tree.no_steps = 0
  steps_height (tree.step x xs) = step_height x + steps_height xs

opened_at : (d h : ℕ) (P : ℕ → Type 0) → suc h ≤ d → ((k : ℕ) → h ≤ k → P k) → Opened d P
opened_at zero h P l f = absurd (omega (arith, l))
opened_at (suc d) h P l f = f d (omega (arith, l))

opens_at : (d h : ℕ) → suc h ≤ d → Opened d (λ k. Unit {0})
opens_at d h l = opened_at d h (λ k. Unit {0}) l (λ k m. tt)

mutual
  within_height : (e : Tree) (d : ℕ) → height e ≤ d → Within d e
  within_height (tree.text t) d h = tt
  within_height (tree.number n) d h = tt
  within_height (tree.truth b) d h = tt
  within_height (tree.name i) d h = tt
  within_height (tree.interpolation at i) d h = tt
  within_height (tree.group e) d h = opened_at d (height e) (λ k. Within k e) h (λ k l. within_height e k l)
  within_height (tree.call i es) d h = opened_at d (heights es) (λ k. AllWithin k es) h (λ k l. within_heights es k l)
  within_height (tree.println es) d h = opened_at d (heights es) (λ k. AllWithin k es) h (λ k l. within_heights es k l)
  within_height (tree.error t) d h = opens_at d 0 h
  within_height tree.unbuffered d h = opens_at d 0 h
  within_height (tree.channel e) d h = opened_at d (height e) (λ k. Within k e) h (λ k l. within_height e k l)
  within_height (tree.atomic e) d h = opened_at d (height e) (λ k. Within k e) h (λ k l. within_height e k l)
  within_height tree.least d h = opens_at d 0 h
  within_height tree.greatest d h = opens_at d 0 h
  within_height tree.random d h = opens_at d 0 h
  within_height (tree.random_in a b) d h = opened_at d (height a + height b) (λ k. Within k a × Within k b) h (λ k l. (within_height a k (omega (arith, l)), within_height b k (omega (arith, l))))
  within_height (tree.notify e b) d h = opened_at d (height e) (λ k. Within k e) h (λ k l. within_height e k l)
  within_height (tree.read i) d h = opens_at d 0 h
  within_height (tree.power a b) d h = (within_height a d (omega (arith, h)), opened_at d (height b) (λ k. Within k b) (omega (arith, h)) (λ k l. within_height b k l))
  within_height (tree.unary o e) d h = opened_at d (height e) (λ k. Within k e) h (λ k l. within_height e k l)
  within_height (tree.chain c e es) d h = (within_height e d (omega (arith, h)), within_terms es d (omega (arith, h)))
  within_height (tree.conditional c a b) d h =
      (within_height c d (omega (arith, h)), opened_at d (height a + height b) (λ k. Within k a × Within k b) (omega (arith, h)) (λ k l. (within_height a k (omega (arith, l)), within_height b k (omega (arith, l)))))
  within_height (tree.block ss) d h = opened_at d (steps_height ss) (λ k. StepsWithin k ss) h (λ k l. within_steps ss k l)
  within_height (tree.branches c ss arms) d h =
      opened_at d (height c + (steps_height ss + arms_height arms)) (λ k. Within k c × StepsWithin k ss × ArmsWithin k arms) h
      (λ k l. (within_height c k (omega (arith, l)), within_steps ss k (omega (arith, l)), within_arms arms k (omega (arith, l))))
  within_height (tree.while c ss) d h =
      opened_at d (height c + steps_height ss) (λ k. Within k c × StepsWithin k ss) h (λ k l. (within_height c k (omega (arith, l)), within_steps ss k (omega (arith, l))))
  within_height (tree.for_range i a b ss) d h =
      opened_at d (height a + (height b + steps_height ss)) (λ k. Within k a × Within k b × StepsWithin k ss) h
      (λ k l. (within_height a k (omega (arith, l)), within_height b k (omega (arith, l)), within_steps ss k (omega (arith, l))))
  within_height (tree.for_each i e ss) d h =
      opened_at d (height e + steps_height ss) (λ k. Within k e × StepsWithin k ss) h (λ k l. (within_height e k (omega (arith, l)), within_steps ss k (omega (arith, l))))
  within_height (tree.spawn at p e) d h = opened_at d (height e) (λ k. Within k e) h (λ k l. within_height e k l)
  within_height (tree.async at e) d h = opened_at d (height e) (λ k. Within k e) h (λ k l. within_height e k l)
  within_height (tree.sync e) d h = opened_at d (height e) (λ k. Within k e) h (λ k l. within_height e k l)
  within_height (tree.threads at s i a b ss) d h =
      opened_at d (suc (height a + (height b + steps_height ss))) (λ j. Opened j (λ k. Within k a × Within k b × StepsWithin k ss)) h (λ j m.
      opened_at j (height a + (height b + steps_height ss)) (λ k. Within k a × Within k b × StepsWithin k ss) m
      (λ k l. (within_height a k (omega (arith, l)), within_height b k (omega (arith, l)), within_steps ss k (omega (arith, l)))))

  within_heights : (es : Trees) (d : ℕ) → heights es ≤ d → AllWithin d es
  within_heights tree.no_trees d h = tt
  within_heights (tree.tree e es) d h = (within_height e d (omega (arith, h)), within_heights es d (omega (arith, h)))

  within_terms : (es : Terms) (d : ℕ) → terms_height es ≤ d → TermsWithin d es
  within_terms tree.no_terms d h = tt
  within_terms (tree.term s e es) d h = (within_height e d (omega (arith, h)), within_terms es d (omega (arith, h)))

  within_arms : (arms : Arms) (d : ℕ) → arms_height arms ≤ d → ArmsWithin d arms
  within_arms tree.no_arms d h = tt
  within_arms (tree.otherwise ss) d h = within_steps ss d h
  within_arms (tree.arm c ss arms) d h = (within_height c d (omega (arith, h)), within_steps ss d (omega (arith, h)), within_arms arms d (omega (arith, h)))

  within_leap : (j : Leap) (d : ℕ) → leap_height j ≤ d → LeapWithin d j
  within_leap (tree.return_nothing at) d h = tt
  within_leap (tree.return_value at e) d h = within_height e d h
  within_leap (tree.break_loop at) d h = tt
  within_leap (tree.continue_loop at) d h = tt

  within_step : (x : Step) (d : ℕ) → step_height x ≤ d → StepWithin d x
  within_step (tree.assign i o e) d h = within_height e d h
  within_step (tree.store i e) d h = (opens_at d (height e) h, within_height e d (omega (arith, h)))
  within_step (tree.jump j) d h = within_leap j d h
  within_step (tree.guard c e es j) d h = (within_height e d (omega (arith, h)), within_terms es d (omega (arith, h)), within_leap j d (omega (arith, h)))
  within_step (tree.value e) d h = within_height e d h

  within_steps : (xs : Steps) (d : ℕ) → steps_height xs ≤ d → StepsWithin d xs
  within_steps tree.no_steps d h = tt
  within_steps (tree.step x xs) d h = (within_step x d (omega (arith, h)), within_steps xs d (omega (arith, h)))

abbrev form_height : Form → ℕ
form_height tree.using_threads = 0
form_height (tree.constant i e) = height e
form_height (tree.function i is ss) = suc (suc (steps_height ss))
form_height (tree.short i is e) = suc (height e)
form_height (tree.plain s) = step_height s

abbrev pub tops_height : List TopTree → ℕ
tops_height [] = 0
tops_height (x ∷ xs) = form_height x.1 + tops_height xs

within_form : (f : Form) (d : ℕ) → form_height f ≤ d → FormWithin d f
within_form tree.using_threads d h = tt
within_form (tree.constant i e) d h = within_height e d h
within_form (tree.function i is ss) d h =
    opened_at d (suc (steps_height ss)) (λ k. Opened k (λ j. Unit {0}) × StepsWithin k ss) h (λ k l. (opens_at k (steps_height ss) l, within_steps ss k (omega (arith, l))))
within_form (tree.short i is e) d h = (opens_at d (height e) h, within_height e d (omega (arith, h)))
within_form (tree.plain s) d h = within_step s d h

pub within_tops : (xs : List TopTree) (d : ℕ) → tops_height xs ≤ d → TopsWithin d xs
within_tops [] d h = tt
within_tops (x ∷ xs) d h = (within_form x.1 d (omega (arith, h)), within_tops xs d (omega (arith, h)))

-- How many openers are open at once in a tree: brackets, blocks, macro words, `?`, `^` and unary operators.
use Rattle.std.specs.Prelude.{ℕ, zero, suc, List, [], ◌∷◌}
use Rattle.jt_syntax.specs.Tree.{Tree, Trees, Terms, Arms, Leap, Step, Steps, Form, TopTree}
use Rattle.jt_syntax.specs.Tree as tree

-- with an opener less for what is in it
abbrev pub Opened : ℕ → (ℕ → Type 0) → Type 0
Opened zero P = ⊥
Opened (suc depth) P = P depth

-- an opener, in which nothing else opens
abbrev pub Opens : ℕ → Type 0
Opens depth = Opened depth (λ k. Unit {0})

-- no more openers are open than that
abbrev mutual
  pub Within : ℕ → Tree → Type 0
  Within d (tree.text t) = Unit {0}
  Within d (tree.number n) = Unit {0}
  Within d (tree.truth b) = Unit {0}
  Within d (tree.name i) = Unit {0}
  Within d (tree.interpolation at i) = Unit {0}
  Within d (tree.group e) = Opened d (λ k. Within k e)
  Within d (tree.call i es) = Opened d (λ k. AllWithin k es)
  Within d (tree.println es) = Opened d (λ k. AllWithin k es)
  Within d (tree.error t) = Opens d
  Within d tree.unbuffered = Opens d
  Within d (tree.channel e) = Opened d (λ k. Within k e)
  Within d (tree.atomic e) = Opened d (λ k. Within k e)
  Within d tree.least = Opens d
  Within d tree.greatest = Opens d
  Within d tree.random = Opens d
  Within d (tree.random_in a b) = Opened d (λ k. Within k a × Within k b)
  Within d (tree.notify e b) = Opened d (λ k. Within k e)
  Within d (tree.read i) = Opens d
  Within d (tree.power a b) = Within d a × Opened d (λ k. Within k b)
  Within d (tree.unary o e) = Opened d (λ k. Within k e)
  Within d (tree.chain c e es) = Within d e × TermsWithin d es
  Within d (tree.conditional c a b) = Within d c × Opened d (λ k. Within k a × Within k b)
  Within d (tree.block ss) = Opened d (λ k. StepsWithin k ss)
  Within d (tree.branches c ss arms) = Opened d (λ k. Within k c × StepsWithin k ss × ArmsWithin k arms)
  Within d (tree.while c ss) = Opened d (λ k. Within k c × StepsWithin k ss)
  Within d (tree.for_range i a b ss) = Opened d (λ k. Within k a × Within k b × StepsWithin k ss)
  Within d (tree.for_each i e ss) = Opened d (λ k. Within k e × StepsWithin k ss)
  Within d (tree.spawn at p e) = Opened d (λ k. Within k e)
  Within d (tree.async at e) = Opened d (λ k. Within k e)
  Within d (tree.sync e) = Opened d (λ k. Within k e)
  Within d (tree.threads at s i a b ss) = Opened d (λ j. Opened j (λ k. Within k a × Within k b × StepsWithin k ss))

  pub AllWithin : ℕ → Trees → Type 0
  AllWithin d tree.no_trees = Unit {0}
  AllWithin d (tree.tree e es) = Within d e × AllWithin d es

  pub TermsWithin : ℕ → Terms → Type 0
  TermsWithin d tree.no_terms = Unit {0}
  TermsWithin d (tree.term o e es) = Within d e × TermsWithin d es

  pub ArmsWithin : ℕ → Arms → Type 0
  ArmsWithin d tree.no_arms = Unit {0}
  ArmsWithin d (tree.otherwise ss) = StepsWithin d ss
  ArmsWithin d (tree.arm c ss arms) = Within d c × StepsWithin d ss × ArmsWithin d arms

  pub LeapWithin : ℕ → Leap → Type 0
  LeapWithin d (tree.return_nothing at) = Unit {0}
  LeapWithin d (tree.return_value at e) = Within d e
  LeapWithin d (tree.break_loop at) = Unit {0}
  LeapWithin d (tree.continue_loop at) = Unit {0}

  pub StepWithin : ℕ → Step → Type 0
  StepWithin d (tree.assign i o e) = Within d e
  StepWithin d (tree.store i e) = Opens d × Within d e
  StepWithin d (tree.jump j) = LeapWithin d j
  StepWithin d (tree.guard k e es j) = Within d e × TermsWithin d es × LeapWithin d j
  StepWithin d (tree.value e) = Within d e

  pub StepsWithin : ℕ → Steps → Type 0
  StepsWithin d tree.no_steps = Unit {0}
  StepsWithin d (tree.step x xs) = StepWithin d x × StepsWithin d xs

abbrev pub FormWithin : ℕ → Form → Type 0
FormWithin d tree.using_threads = Unit {0}
FormWithin d (tree.constant i e) = Within d e
FormWithin d (tree.function i is ss) = Opened d (λ k. Opens k × StepsWithin k ss)
FormWithin d (tree.short i is e) = Opens d × Within d e
FormWithin d (tree.plain s) = StepWithin d s

abbrev pub TopsWithin : ℕ → List TopTree → Type 0
TopsWithin d [] = Unit {0}
TopsWithin d (x ∷ xs) = FormWithin d x.1 × TopsWithin d xs

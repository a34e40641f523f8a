-- One spelling of each tree: the kinds of its tokens, with a semicolon behind each statement and no newline, since a
-- newline may be dropped; and trees without their places.
use Rattle.std.specs.Prelude.{ℕ, Bool, true, false, List, [], ◌∷◌, ◌++◌, map, Option, Some, None, codes}
use Rattle.jt_syntax.specs.Tree.{Tree, Trees, Terms, Arms, Leap, Step, Steps, Form, TopTree}
use Rattle.jt_syntax.specs.Tree as tree
use Rattle.jt_syntax.specs.declared.operator.BinaryOperator.TheVariants as binary
use Rattle.jt_syntax.specs.declared.script.Identifier.{Identifier}
use Rattle.jt_syntax.specs.declared.script.PoolName.{PoolName}
use Rattle.jt_syntax.specs.declared.script.Schedule.{Schedule}
use Rattle.jt_syntax.specs.declared.token.Sign.{Sign}
use Rattle.jt_syntax.specs.declared.token.Sign.TheVariants as sign
use Rattle.jt_syntax.specs.declared.token.TokenKind.{TokenKind}
use Rattle.jt_syntax.specs.declared.token.TokenKind.TheVariants as kind
use Rattle.jt_grammar.specs.Grammar.{unary_sign, power_sign, assignment_sign, pool_word, schedule_word}

-- ---- the kinds of the tokens that are printed for a tree

-- one behind the other
infixr 10 ◌⁀◌
abbrev pub ◌⁀◌ : List TokenKind → List TokenKind → List TokenKind
ks ⁀ ls = ks ++ ls

abbrev pub mark : Sign → List TokenKind
mark s = kind.Sign s ∷ []

abbrev pub word : List ℕ → List TokenKind
word n = kind.Name n ∷ []

abbrev pub quoted : List ℕ → List TokenKind
quoted t = kind.Text t ∷ []

abbrev pub truth_kinds : Bool → List TokenKind
truth_kinds true = mark sign.True
truth_kinds false = mark sign.False

abbrev pub of_int64 : List TokenKind
of_int64 = mark sign.OpenCurly ⁀ mark sign.Int64 ⁀ mark sign.CloseCurly

abbrev pub pool_kinds : Option PoolName → List TokenKind
pool_kinds None = []
pool_kinds (Some p) = mark sign.Colon ⁀ word (pool_word p)

abbrev pub schedule_kinds : Option Schedule → List TokenKind
schedule_kinds None = []
schedule_kinds (Some s) = mark sign.Colon ⁀ word (schedule_word s)

abbrev mutual
  pub tree_kinds : Tree → List TokenKind
  tree_kinds (tree.text t) = quoted t
  tree_kinds (tree.number n) = kind.Number n ∷ []
  tree_kinds (tree.truth b) = truth_kinds b
  tree_kinds (tree.name i) = word i.name
  tree_kinds (tree.interpolation at i) = mark sign.Dollar ⁀ word i.name
  tree_kinds (tree.group e) = mark sign.Open ⁀ tree_kinds e ⁀ mark sign.Close
  tree_kinds (tree.call i es) = word i.name ⁀ mark sign.Open ⁀ list_kinds es ⁀ mark sign.Close
  tree_kinds (tree.println es) = mark sign.Println ⁀ mark sign.Open ⁀ list_kinds es ⁀ mark sign.Close
  tree_kinds (tree.error t) = mark sign.Error ⁀ mark sign.Open ⁀ quoted t ⁀ mark sign.Close
  tree_kinds tree.unbuffered = mark sign.Channel ⁀ of_int64 ⁀ mark sign.Open ⁀ mark sign.Close
  tree_kinds (tree.channel e) = mark sign.Channel ⁀ of_int64 ⁀ mark sign.Open ⁀ tree_kinds e ⁀ mark sign.Close
  tree_kinds (tree.atomic e) = mark sign.Atomic ⁀ of_int64 ⁀ mark sign.Open ⁀ tree_kinds e ⁀ mark sign.Close
  tree_kinds tree.least = mark sign.TypeMin ⁀ mark sign.Open ⁀ mark sign.Int64 ⁀ mark sign.Close
  tree_kinds tree.greatest = mark sign.TypeMax ⁀ mark sign.Open ⁀ mark sign.Int64 ⁀ mark sign.Close
  tree_kinds tree.random = mark sign.Rand ⁀ mark sign.Open ⁀ mark sign.Int64 ⁀ mark sign.Close
  tree_kinds (tree.random_in a b) = mark sign.Rand ⁀ mark sign.Open ⁀ tree_kinds a ⁀ mark sign.Colon ⁀ tree_kinds b ⁀ mark sign.Close
  tree_kinds (tree.notify e b) = word (codes "notify") ⁀ mark sign.Open ⁀ tree_kinds e ⁀ mark sign.Comma ⁀ word (codes "all") ⁀ mark sign.Assign ⁀ truth_kinds b ⁀ mark sign.Close
  tree_kinds (tree.read i) = word i.name ⁀ mark sign.OpenSquare ⁀ mark sign.CloseSquare
  tree_kinds (tree.power a b) = tree_kinds a ⁀ mark power_sign ⁀ tree_kinds b
  tree_kinds (tree.unary o e) = mark (unary_sign o) ⁀ tree_kinds e
  tree_kinds (tree.chain c e es) = tree_kinds e ⁀ term_kinds es
  tree_kinds (tree.conditional c a b) = tree_kinds c ⁀ mark sign.Question ⁀ tree_kinds a ⁀ mark sign.Colon ⁀ tree_kinds b
  tree_kinds (tree.block ss) = mark sign.Begin ⁀ steps_kinds ss ⁀ mark sign.End
  tree_kinds (tree.branches c ss arms) = mark sign.If ⁀ tree_kinds c ⁀ mark sign.Semicolon ⁀ steps_kinds ss ⁀ arms_kinds arms ⁀ mark sign.End
  tree_kinds (tree.while c ss) = mark sign.While ⁀ tree_kinds c ⁀ mark sign.Semicolon ⁀ steps_kinds ss ⁀ mark sign.End
  tree_kinds (tree.for_range i a b ss) = mark sign.For ⁀ word i.name ⁀ mark sign.In ⁀ tree_kinds a ⁀ mark sign.Colon ⁀ tree_kinds b ⁀ mark sign.Semicolon ⁀ steps_kinds ss ⁀ mark sign.End
  tree_kinds (tree.for_each i e ss) = mark sign.For ⁀ word i.name ⁀ mark sign.In ⁀ tree_kinds e ⁀ mark sign.Semicolon ⁀ steps_kinds ss ⁀ mark sign.End
  tree_kinds (tree.spawn at p e) = mark sign.Spawn ⁀ pool_kinds p ⁀ tree_kinds e
  tree_kinds (tree.async at e) = mark sign.Async ⁀ tree_kinds e
  tree_kinds (tree.sync e) = mark sign.Sync ⁀ tree_kinds e
  tree_kinds (tree.threads at s i a b ss) = mark sign.Threads ⁀ schedule_kinds s ⁀ mark sign.For ⁀ word i.name ⁀ mark sign.In ⁀ tree_kinds a ⁀ mark sign.Colon ⁀ tree_kinds b ⁀ mark sign.Semicolon ⁀ steps_kinds ss ⁀ mark sign.End

  -- with commas between
  pub list_kinds : Trees → List TokenKind
  list_kinds tree.no_trees = []
  list_kinds (tree.tree e es) = tree_kinds e ⁀ comma_kinds es

  pub comma_kinds : Trees → List TokenKind
  comma_kinds tree.no_trees = []
  comma_kinds (tree.tree e es) = mark sign.Comma ⁀ tree_kinds e ⁀ comma_kinds es

  -- operands, each behind its operator
  pub term_kinds : Terms → List TokenKind
  term_kinds tree.no_terms = []
  term_kinds (tree.term o e es) = mark (sign.Binary o) ⁀ tree_kinds e ⁀ term_kinds es

  pub arms_kinds : Arms → List TokenKind
  arms_kinds tree.no_arms = []
  arms_kinds (tree.otherwise ss) = mark sign.Else ⁀ steps_kinds ss
  arms_kinds (tree.arm c ss arms) = mark sign.ElseIf ⁀ tree_kinds c ⁀ mark sign.Semicolon ⁀ steps_kinds ss ⁀ arms_kinds arms

  pub leap_kinds : Leap → List TokenKind
  leap_kinds (tree.return_nothing at) = mark sign.Return
  leap_kinds (tree.return_value at e) = mark sign.Return ⁀ tree_kinds e
  leap_kinds (tree.break_loop at) = mark sign.Break
  leap_kinds (tree.continue_loop at) = mark sign.Continue

  pub step_kinds : Step → List TokenKind
  step_kinds (tree.assign i o e) = word i.name ⁀ mark (assignment_sign o) ⁀ tree_kinds e
  step_kinds (tree.store i e) = word i.name ⁀ mark sign.OpenSquare ⁀ mark sign.CloseSquare ⁀ mark sign.Assign ⁀ tree_kinds e
  step_kinds (tree.jump j) = leap_kinds j
  step_kinds (tree.guard k e es j) = tree_kinds e ⁀ term_kinds es ⁀ mark (sign.Binary (binary.Connective k)) ⁀ leap_kinds j
  step_kinds (tree.value e) = tree_kinds e

  -- statements, each with a semicolon behind it
  pub steps_kinds : Steps → List TokenKind
  steps_kinds tree.no_steps = []
  steps_kinds (tree.step x xs) = step_kinds x ⁀ mark sign.Semicolon ⁀ steps_kinds xs

abbrev pub more_names_kinds : List Identifier → List TokenKind
more_names_kinds [] = []
more_names_kinds (i ∷ is) = mark sign.Comma ⁀ word i.name ⁀ more_names_kinds is

-- parameters with commas between
abbrev pub names_kinds : List Identifier → List TokenKind
names_kinds [] = []
names_kinds (i ∷ is) = word i.name ⁀ more_names_kinds is

abbrev pub form_kinds : Form → List TokenKind
form_kinds tree.using_threads = mark sign.Using ⁀ mark sign.BaseThreads
form_kinds (tree.constant i e) = mark sign.Const ⁀ word i.name ⁀ mark sign.Assign ⁀ tree_kinds e
form_kinds (tree.function i is ss) = mark sign.Function ⁀ word i.name ⁀ mark sign.Open ⁀ names_kinds is ⁀ mark sign.Close ⁀ mark sign.Semicolon ⁀ steps_kinds ss ⁀ mark sign.End
form_kinds (tree.short i is e) = word i.name ⁀ mark sign.Open ⁀ names_kinds is ⁀ mark sign.Close ⁀ mark sign.Assign ⁀ tree_kinds e
form_kinds (tree.plain s) = step_kinds s

-- what stands in a script, each with a semicolon behind it; the end token is not printed
abbrev pub script_kinds : List TopTree → List TokenKind
script_kinds [] = []
script_kinds (x ∷ xs) = form_kinds x.1 ⁀ mark sign.Semicolon ⁀ script_kinds xs

-- ---- a tree with each place 0

abbrev pub bare_identifier : Identifier → Identifier
bare_identifier i = record { name = i.name; at = 0 }

abbrev mutual
  pub bare : Tree → Tree
  bare (tree.text t) = tree.text t
  bare (tree.number n) = tree.number n
  bare (tree.truth b) = tree.truth b
  bare (tree.name i) = tree.name (bare_identifier i)
  bare (tree.interpolation at i) = tree.interpolation 0 (bare_identifier i)
  bare (tree.group e) = tree.group (bare e)
  bare (tree.call i es) = tree.call (bare_identifier i) (bare_trees es)
  bare (tree.println es) = tree.println (bare_trees es)
  bare (tree.error t) = tree.error t
  bare tree.unbuffered = tree.unbuffered
  bare (tree.channel e) = tree.channel (bare e)
  bare (tree.atomic e) = tree.atomic (bare e)
  bare tree.least = tree.least
  bare tree.greatest = tree.greatest
  bare tree.random = tree.random
  bare (tree.random_in a b) = tree.random_in (bare a) (bare b)
  bare (tree.notify e b) = tree.notify (bare e) b
  bare (tree.read i) = tree.read (bare_identifier i)
  bare (tree.power a b) = tree.power (bare a) (bare b)
  bare (tree.unary o e) = tree.unary o (bare e)
  bare (tree.chain c e es) = tree.chain c (bare e) (bare_terms es)
  bare (tree.conditional c a b) = tree.conditional (bare c) (bare a) (bare b)
  bare (tree.block ss) = tree.block (bare_steps ss)
  bare (tree.branches c ss arms) = tree.branches (bare c) (bare_steps ss) (bare_arms arms)
  bare (tree.while c ss) = tree.while (bare c) (bare_steps ss)
  bare (tree.for_range i a b ss) = tree.for_range (bare_identifier i) (bare a) (bare b) (bare_steps ss)
  bare (tree.for_each i e ss) = tree.for_each (bare_identifier i) (bare e) (bare_steps ss)
  bare (tree.spawn at p e) = tree.spawn 0 p (bare e)
  bare (tree.async at e) = tree.async 0 (bare e)
  bare (tree.sync e) = tree.sync (bare e)
  bare (tree.threads at s i a b ss) = tree.threads 0 s (bare_identifier i) (bare a) (bare b) (bare_steps ss)

  pub bare_trees : Trees → Trees
  bare_trees tree.no_trees = tree.no_trees
  bare_trees (tree.tree e es) = tree.tree (bare e) (bare_trees es)

  pub bare_terms : Terms → Terms
  bare_terms tree.no_terms = tree.no_terms
  bare_terms (tree.term o e es) = tree.term o (bare e) (bare_terms es)

  pub bare_arms : Arms → Arms
  bare_arms tree.no_arms = tree.no_arms
  bare_arms (tree.otherwise ss) = tree.otherwise (bare_steps ss)
  bare_arms (tree.arm c ss arms) = tree.arm (bare c) (bare_steps ss) (bare_arms arms)

  pub bare_leap : Leap → Leap
  bare_leap (tree.return_nothing at) = tree.return_nothing 0
  bare_leap (tree.return_value at e) = tree.return_value 0 (bare e)
  bare_leap (tree.break_loop at) = tree.break_loop 0
  bare_leap (tree.continue_loop at) = tree.continue_loop 0

  pub bare_step : Step → Step
  bare_step (tree.assign i o e) = tree.assign (bare_identifier i) o (bare e)
  bare_step (tree.store i e) = tree.store (bare_identifier i) (bare e)
  bare_step (tree.jump j) = tree.jump (bare_leap j)
  bare_step (tree.guard k e es j) = tree.guard k (bare e) (bare_terms es) (bare_leap j)
  bare_step (tree.value e) = tree.value (bare e)

  pub bare_steps : Steps → Steps
  bare_steps tree.no_steps = tree.no_steps
  bare_steps (tree.step x xs) = tree.step (bare_step x) (bare_steps xs)

abbrev pub bare_form : Form → Form
bare_form tree.using_threads = tree.using_threads
bare_form (tree.constant i e) = tree.constant (bare_identifier i) (bare e)
bare_form (tree.function i is ss) = tree.function (bare_identifier i) (map bare_identifier is) (bare_steps ss)
bare_form (tree.short i is e) = tree.short (bare_identifier i) (map bare_identifier is) (bare e)
bare_form (tree.plain s) = tree.plain (bare_step s)

-- a script with each place 0
abbrev pub bare_script : List TopTree → List TopTree
bare_script tops = map (λ x. (0, bare_form x.1)) tops

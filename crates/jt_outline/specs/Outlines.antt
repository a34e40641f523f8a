-- What stands in a tree as far as names go. Each word puts it before what stands behind the tree.
use Rattle.std.specs.Prelude.{ℕ, zero, suc, List, [], ◌∷◌}
use Rattle.jt_syntax.specs.declared.script.Identifier.{Identifier}
use Rattle.jt_syntax.specs.declared.operator.AssignmentOperator.{AssignmentOperator}
use Rattle.jt_syntax.specs.declared.operator.AssignmentOperator.TheVariants as assigns
use Rattle.jt_syntax.specs.Tree.{Tree, Trees, Terms, Arms, Leap, Step, Steps, TopTree}
use Rattle.jt_syntax.specs.Tree as tree
use Rattle.jt_outline.specs.declared.mark.ScopeKind.TheVariants as kind
use Rattle.jt_outline.specs.Marks.{Marks, no_marks, mark, use_of, interpolation, assignment, call, print, macro, loop_jump, return_jump, scope, FunctionTree, PartTree, constant, statement, OutlineTree}

abbrev pub count : Trees → ℕ
count tree.no_trees = zero
count (tree.tree e es) = suc (count es)

-- an assignment; one with an operator is a use before it
abbrev pub assigned : AssignmentOperator → Identifier → Marks → Marks
assigned assigns.Plain i r = mark (assignment i) r
assigned o i r = mark (use_of i) (mark (assignment i) r)

abbrev mutual
  pub marks : Tree → Marks → Marks
  marks (tree.text t) r = r
  marks (tree.number n) r = r
  marks (tree.truth b) r = r
  marks (tree.name i) r = mark (use_of i) r
  marks (tree.interpolation at i) r = mark (interpolation at i) r
  marks (tree.group e) r = marks e r
  marks (tree.call i es) r = mark (call i (count es)) (marks_all es r)
  marks (tree.println es) r = mark print (marks_all es r)
  marks (tree.error t) r = r
  marks tree.unbuffered r = r
  marks (tree.channel e) r = r
  marks (tree.atomic e) r = r
  marks tree.least r = r
  marks tree.greatest r = r
  marks tree.random r = r
  marks (tree.random_in a b) r = r
  marks (tree.notify e b) r = r
  marks (tree.read i) r = r
  marks (tree.power a b) r = marks a (marks b r)
  marks (tree.unary o e) r = marks e r
  marks (tree.chain k e es) r = marks e (marks_terms es r)
  marks (tree.conditional t a b) r = marks t (marks a (marks b r))
  marks (tree.block ss) r = marks_steps ss r
  marks (tree.branches t ss arms) r = marks t (marks_steps ss (marks_arms arms r))
  marks (tree.while t ss) r = marks t (mark (scope kind.Loop 0 [] (marks_steps ss no_marks)) r)
  marks (tree.for_range i a b ss) r = marks a (marks b (mark (scope kind.Loop 0 (i ∷ []) (marks_steps ss no_marks)) r))
  marks (tree.for_each i e ss) r = r
  marks (tree.spawn at p e) r = mark (scope kind.Task at [] (marks e no_marks)) r
  marks (tree.async at e) r = mark (scope kind.Task at [] (marks e no_marks)) r
  marks (tree.sync e) r = mark (scope kind.Sync 0 [] (marks e no_marks)) r
  marks (tree.threads at o i a b ss) r = mark macro r

  pub marks_all : Trees → Marks → Marks
  marks_all tree.no_trees r = r
  marks_all (tree.tree e es) r = marks e (marks_all es r)

  pub marks_terms : Terms → Marks → Marks
  marks_terms tree.no_terms r = r
  marks_terms (tree.term o e es) r = marks e (marks_terms es r)

  pub marks_arms : Arms → Marks → Marks
  marks_arms tree.no_arms r = r
  marks_arms (tree.otherwise ss) r = marks_steps ss r
  marks_arms (tree.arm e ss arms) r = marks e (marks_steps ss (marks_arms arms r))

  pub marks_leap : Leap → Marks → Marks
  marks_leap (tree.return_nothing at) r = mark (return_jump at) r
  marks_leap (tree.return_value at e) r = mark (return_jump at) (marks e r)
  marks_leap (tree.break_loop at) r = mark (loop_jump at) r
  marks_leap (tree.continue_loop at) r = mark (loop_jump at) r

  pub marks_step : Step → Marks → Marks
  marks_step (tree.assign i o e) r = assigned o i (marks e r)
  marks_step (tree.store i e) r = r
  marks_step (tree.jump l) r = marks_leap l r
  marks_step (tree.guard k e es l) r = marks e (marks_terms es (marks_leap l r))
  marks_step (tree.value e) r = marks e r

  pub marks_steps : Steps → Marks → Marks
  marks_steps tree.no_steps r = r
  marks_steps (tree.step s ss) r = marks_step s (marks_steps ss r)

-- the functions of a script
abbrev pub functions_of : List TopTree → List FunctionTree
functions_of [] = []
functions_of ((at, tree.function i is ss) ∷ ts) = record { name = i; parameters = is; body = marks_steps ss no_marks } ∷ functions_of ts
functions_of ((at, tree.short i is e) ∷ ts) = record { name = i; parameters = is; body = marks e no_marks } ∷ functions_of ts
functions_of ((at, f) ∷ ts) = functions_of ts

-- what the main task of a script does
abbrev pub parts_of : List TopTree → List PartTree
parts_of [] = []
parts_of ((at, tree.constant i e) ∷ ts) = constant at i (marks e no_marks) ∷ parts_of ts
parts_of ((at, tree.plain s) ∷ ts) = statement (marks_step s no_marks) ∷ parts_of ts
parts_of ((at, f) ∷ ts) = parts_of ts

abbrev pub outline_of : List TopTree → OutlineTree
outline_of ts = record { functions = functions_of ts; parts = parts_of ts }

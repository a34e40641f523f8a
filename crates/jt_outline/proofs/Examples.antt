-- What stands in small trees, and the outline of a small script.
use Rattle.std.proofs.Common.{◌≡◌, ℕ, List, [], ◌∷◌, None, refl}
use Rattle.std.specs.Prelude.{codes}
use Rattle.jt_syntax.specs.declared.operator.AssignmentOperator.TheVariants as assigns
use Rattle.jt_syntax.specs.declared.operator.BinaryOperator.TheVariants as binary
use Rattle.jt_syntax.specs.declared.operator.Class.TheVariants as class
use Rattle.jt_syntax.specs.declared.operator.ComparisonOperator.TheVariants as comparison
use Rattle.jt_syntax.specs.declared.operator.Connective.TheVariants as connective
use Rattle.jt_syntax.specs.declared.script.Identifier.{Identifier}
use Rattle.jt_syntax.specs.Tree.{Tree, Trees, Terms, Step, Steps}
use Rattle.jt_syntax.specs.Tree as tree
use Rattle.jt_outline.specs.declared.mark.ScopeKind.TheVariants as kind
use Rattle.jt_outline.specs.Marks.{MarkTree, Marks, no_marks, mark, use_of, interpolation, assignment, call, print, macro, loop_jump, return_jump, scope, constant, statement}
use Rattle.jt_outline.specs.Outlines.{marks, marks_step, outline_of}

abbrev named : List ℕ → ℕ → Identifier
named text at = record { name = text; at = at }

abbrev f : Identifier
f = named (codes "f") 1

abbrev i : Identifier
i = named (codes "i") 2

abbrev n : Identifier
n = named (codes "n") 3

abbrev x : Identifier
x = named (codes "x") 4

abbrev y : Identifier
y = named (codes "y") 5

abbrev one : Step → Steps
one s = tree.step s tree.no_steps

abbrev two : Step → Step → Steps
two s t = tree.step s (one t)

abbrev alone : Tree → Trees
alone e = tree.tree e tree.no_trees

abbrev behind : Tree → Terms
behind e = tree.term (binary.Comparison comparison.Less) e tree.no_terms

abbrev last : MarkTree → Marks
last m = mark m no_marks

-- x = 1
plain_assignment : marks_step (tree.assign x assigns.Plain (tree.number 1)) no_marks ≡ last (assignment x)
plain_assignment = refl

-- x += y: a use of x, an assignment to it, and then the use of y
added : marks_step (tree.assign x assigns.Plus (tree.name y)) no_marks ≡ mark (use_of x) (mark (assignment x) (last (use_of y)))
added = refl

-- while x < i; x += 1; end
abbrev counting : Tree
counting = tree.while (tree.chain class.Comparison (tree.name x) (behind (tree.name i))) (one (tree.assign x assigns.Plus (tree.number 1)))

-- the condition stands outside the loop's scope
counted : marks counting no_marks ≡ mark (use_of x) (mark (use_of i) (last (scope kind.Loop 0 [] (mark (use_of x) (last (assignment x))))))
counted = refl

-- for i in 1:n .. end with that loop in it: the bounds stand outside, the variable is the scope's
nested : marks (tree.for_range i (tree.number 1) (tree.name n) (one (tree.value counting))) no_marks
    ≡ mark (use_of n) (last (scope kind.Loop 0 (i ∷ []) (mark (use_of x) (mark (use_of i) (last (scope kind.Loop 0 [] (mark (use_of x) (last (assignment x)))))))))
nested = refl

-- @spawn f(x), with the place of its word
abbrev calling : Tree
calling = tree.spawn 20 None (tree.call f (alone (tree.name x)))

-- @spawn println($y)
abbrev printing : Tree
printing = tree.spawn 40 None (tree.println (alone (tree.interpolation 48 y)))

-- @sync with both tasks: their scopes stand in its scope
synced : marks (tree.sync (tree.block (two (tree.value calling) (tree.value printing)))) no_marks
    ≡ last (scope kind.Sync 0 [] (mark (scope kind.Task 20 [] (mark (call f 1) (last (use_of x)))) (last (scope kind.Task 40 [] (mark print (last (interpolation 48 y)))))))
synced = refl

-- x && return y: the jump stands behind the operands
guarded : marks_step (tree.guard connective.And (tree.name x) tree.no_terms (tree.return_value 6 (tree.name y))) no_marks ≡ mark (use_of x) (mark (return_jump 6) (last (use_of y)))
guarded = refl

-- @threads opens no scope today
threaded : marks (tree.threads 9 None i (tree.number 1) (tree.name n) (one (tree.value (tree.name x)))) no_marks ≡ last macro
threaded = refl

-- using Base.Threads; const n = y; f(x) = x; function y(); break; end; n
outlined : outline_of ((0, tree.using_threads) ∷ (20, tree.constant n (tree.name y)) ∷ (40, tree.short f (x ∷ []) (tree.name x)) ∷ (60, tree.function y [] (one (tree.jump (tree.break_loop 70)))) ∷ (80, tree.plain (tree.value (tree.name n))) ∷ [])
    ≡ record {
      functions = record { name = f; parameters = x ∷ []; body = last (use_of x) } ∷ record { name = y; parameters = []; body = last (loop_jump 70) } ∷ [];
      parts = constant 20 n (last (use_of y)) ∷ statement (last (use_of n)) ∷ [];
    }
outlined = refl

-- A walk over a script that takes its scopes in the order in which they begin makes its program.
use Rattle.std.proofs.Common.{◌≡◌, List, [], ◌∷◌, length, refl, ap}
use Rattle.jt_syntax.specs.Tree.{TopTree}
use Rattle.jt_syntax.specs.Tree as tree
use Rattle.jt_program.specs.Plan as plan
use Rattle.jt_outline.specs.Marks.{no_marks}
use Rattle.jt_outline.specs.Outlines.{marks, marks_steps, functions_of, outline_of}
use Rattle.jt_outline.specs.Outlines as outline
use Rattle.jt_scopes.specs.declared.scope.Scope.{Scope}
use Rattle.jt_scopes.specs.Scopes.{begun_functions, begun_parts, scopes_of}
use Rattle.jt_bound.specs.Bound.{Numbers}
use Rattle.jt_bound.specs.Made.{with}
use Rattle.jt_lowered.specs.Nodes.{body_of}
use Rattle.jt_bound.specs.Programs.{numbers_of, constant_number, function_scope, script_scope, one_more, parts, bodies_of, main_of, whole, program_of}
use Rattle.jt_bound.specs.States.{standing, within}
use Rattle.jt_bound.specs.WalkedPrograms.{walked_functions, walked_main, bodies_alone, walked_program}
use Rattle.jt_bound.proofs.Tied.{Ties, one_tied, both_tied, tied, tied_step, tied_steps}

functions_tied : (x : Numbers) (c : List Scope) (ts : List TopTree) (l : List Scope) → Ties c (begun_functions c (functions_of ts) l) l (λ t. walked_functions x t ts) (λ s. bodies_of x c s ts)
functions_tied x c [] l = record { ties = λ s. refl }
functions_tied x c ((at, tree.function i is ss) ∷ ts) l =
    both_tied one_more
    (record {
      ties = λ s. ap (λ m. with (body_of (length (function_scope c is (marks_steps ss no_marks)).names)) (within (with plan.block m)))
          ((tied_steps x (function_scope c is (marks_steps ss no_marks) ∷ c) ss no_marks (begun_functions c (functions_of ts) l)).ties s);
    })
    (functions_tied x c ts l)
functions_tied x c ((at, tree.short i is e) ∷ ts) l =
    both_tied one_more
    (record {
      ties = λ s. ap (λ m. with (body_of (length (function_scope c is (marks e no_marks)).names)) (within m))
          ((tied x (function_scope c is (marks e no_marks) ∷ c) e no_marks (begun_functions c (functions_of ts) l)).ties s);
    })
    (functions_tied x c ts l)
functions_tied x c ((at, tree.using_threads) ∷ ts) l = record { ties = (functions_tied x c ts l).ties }
functions_tied x c ((at, tree.constant i e) ∷ ts) l = record { ties = (functions_tied x c ts l).ties }
functions_tied x c ((at, tree.plain t) ∷ ts) l = record { ties = (functions_tied x c ts l).ties }

main_tied : (x : Numbers) (c : List Scope) (ts : List TopTree) (l : List Scope) → Ties c (begun_parts c (outline.parts_of ts) l) l (λ t. walked_main x t ts) (λ s. main_of x c s ts)
main_tied x c [] l = record { ties = λ s. refl }
main_tied x c ((at, tree.constant i e) ∷ ts) l =
    both_tied plan.plan (one_tied (plan.define (constant_number x.constants i)) (tied x c e no_marks (begun_parts c (outline.parts_of ts) l))) (main_tied x c ts l)
main_tied x c ((at, tree.plain t) ∷ ts) l = both_tied plan.plan (tied_step x c t no_marks (begun_parts c (outline.parts_of ts) l)) (main_tied x c ts l)
main_tied x c ((at, tree.using_threads) ∷ ts) l = record { ties = (main_tied x c ts l).ties }
main_tied x c ((at, tree.function i is ss) ∷ ts) l = record { ties = (main_tied x c ts l).ties }
main_tied x c ((at, tree.short i is e) ∷ ts) l = record { ties = (main_tied x c ts l).ties }

pub program_tied : (ts : List TopTree) → walked_program (numbers_of ts) (standing [] (scopes_of (outline_of ts)) []) ts ≡ program_of ts
program_tied ts =
    ap (λ m. whole (length (numbers_of ts).constants) (length (script_scope ts).names) (bodies_alone m))
    ((both_tied parts
    (functions_tied (numbers_of ts) (script_scope ts ∷ []) ts (begun_parts (script_scope ts ∷ []) (outline.parts_of ts) []))
    (main_tied (numbers_of ts) (script_scope ts ∷ []) ts [])).ties [])

-- What is assigned directly, mark by mark.
use Rattle.std.proofs.Common.{◌≡◌, List, ◌∷◌, refl}
use Rattle.jt_syntax.specs.declared.script.Identifier.{Identifier}
use Rattle.jt_outline.specs.declared.mark.ScopeKind.TheVariants as kind
use Rattle.jt_outline.specs.Marks.{MarkTree, Marks, no_marks, mark, use_of, interpolation, assignment, call, print, macro, loop_jump, return_jump, scope, PartTree, constant, statement}
use Rattle.jt_scopes.specs.Bodies.{direct, direct_parts}
use Rattle.jt_settling.specs.Parts.{part_marks}

pub direct_mark : (s : List Identifier) (m : MarkTree) (ms : Marks) → direct s (mark m ms) ≡ direct (direct s (mark m no_marks)) ms
direct_mark s (use_of i) ms = refl
direct_mark s (interpolation at i) ms = refl
direct_mark s (assignment i) ms = refl
direct_mark s (call i n) ms = refl
direct_mark s print ms = refl
direct_mark s macro ms = refl
direct_mark s (loop_jump at) ms = refl
direct_mark s (return_jump at) ms = refl
direct_mark s (scope kind.Sync at is body) ms = refl
direct_mark s (scope kind.Loop at is body) ms = refl
direct_mark s (scope kind.Task at is body) ms = refl
direct_mark s (scope kind.Function at is body) ms = refl
direct_mark s (scope kind.Script at is body) ms = refl

pub direct_part : (s : List Identifier) (p : PartTree) (ps : List PartTree) → direct_parts s (p ∷ ps) ≡ direct_parts (direct s (part_marks p)) ps
direct_part s (constant at i ms) ps = refl
direct_part s (statement ms) ps = refl

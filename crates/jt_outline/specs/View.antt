-- The plain data that marks stand for.
use Rattle.std.specs.Prelude.{List, [], ◌∷◌, map}
use Rattle.jt_outline.specs.Marks.{MarkTree, Marks, no_marks, mark, use_of, interpolation, assignment, call, print, macro, loop_jump, return_jump, scope, FunctionTree, PartTree, constant, statement, OutlineTree}
use Rattle.jt_outline.specs.declared.mark.Mark.{Mark}
use Rattle.jt_outline.specs.declared.mark.Mark.TheOpen.{Mark-F, ScopeMark-F}
use Rattle.jt_outline.specs.declared.mark.Mark.TheFolds.{fold-Mark, fold-ScopeMark}
use Rattle.jt_outline.specs.declared.mark.ScopeMark.{ScopeMark}
use Rattle.jt_outline.specs.declared.outline.FunctionMark.{FunctionMark}
use Rattle.jt_outline.specs.declared.outline.Outline.{Outline}
use Rattle.jt_outline.specs.declared.outline.Part.{Part}
use Rattle.jt_outline.specs.declared.outline.Part.TheVariants as part

-- these, and behind them the rest
abbrev pub before : List MarkTree → Marks → Marks
before [] r = r
before (m ∷ ms) r = mark m (before ms r)

abbrev pub marks_of : List MarkTree → Marks
marks_of ms = before ms no_marks

abbrev pub mark_layer : Mark-F MarkTree MarkTree → MarkTree
mark_layer (Mark-F.Use i) = use_of i
mark_layer (Mark-F.Interpolation at i) = interpolation at i
mark_layer (Mark-F.Assignment i) = assignment i
mark_layer (Mark-F.Call i n) = call i n
mark_layer Mark-F.Print = print
mark_layer Mark-F.Macro = macro
mark_layer (Mark-F.LoopJump at) = loop_jump at
mark_layer (Mark-F.Return at) = return_jump at
mark_layer (Mark-F.Scope s) = s

abbrev pub scope_layer : ScopeMark-F MarkTree MarkTree → MarkTree
scope_layer s = scope s.kind s.at s.variables (marks_of s.body)

abbrev pub mark_view : Mark → MarkTree
mark_view = fold-Mark MarkTree MarkTree mark_layer scope_layer

abbrev pub scope_view : ScopeMark → MarkTree
scope_view = fold-ScopeMark MarkTree MarkTree mark_layer scope_layer

abbrev pub mark_views : List Mark → Marks
mark_views ms = marks_of (map mark_view ms)

abbrev pub function_view : FunctionMark → FunctionTree
function_view f = record { name = f.name; parameters = f.parameters; body = mark_views f.body }

abbrev pub part_view : Part → PartTree
part_view (part.Constant at i ms) = constant at i (mark_views ms)
part_view (part.Statement ms) = statement (mark_views ms)

abbrev pub outline_view : Outline → OutlineTree
outline_view o = record { functions = map function_view o.functions; parts = map part_view o.parts }

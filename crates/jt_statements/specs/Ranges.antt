-- Loops over ranges, in parts.
use Rattle.std.specs.Prelude.{Option, Some, None}
use Rattle.jt_syntax.specs.Tree.{Tree, Steps}
use Rattle.jt_syntax.specs.Tree as tree
use Rattle.jt_syntax.specs.View.{view, stmt_views}
use Rattle.jt_syntax.specs.declared.script.Identifier.{Identifier}
use Rattle.jt_statements.specs.declared.task.RangeLoop.{RangeLoop}

-- variable, bounds and body
abbrev pub range_view : RangeLoop → Identifier × Tree × Tree × Steps
range_view r = (r.name, view r.first, view r.last, stmt_views r.body)

-- those of a tree, if it is a loop over a range
abbrev pub range_parts : Tree → Option (Identifier × Tree × Tree × Steps)
range_parts (tree.for_range i a b ss) = Some (i, a, b, ss)
range_parts _ = None

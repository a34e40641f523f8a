-- What the main task does.
use Rattle.jt_outline.specs.Marks.{Marks, PartTree, constant, statement}

-- what stands in a part
abbrev pub part_marks : PartTree → Marks
part_marks (constant at i ms) = ms
part_marks (statement ms) = ms

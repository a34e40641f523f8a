-- Names among expressions.
use Rattle.std.specs.Prelude.{ℕ, Bool, false, List, Option, Some, None}
use Rattle.std.specs.Str.{bytes_eq}
use Rattle.jt_syntax.specs.Tree.{Tree}
use Rattle.jt_syntax.specs.Tree as tree
use Rattle.jt_syntax.specs.declared.script.Identifier.{Identifier}

-- the name that an expression is, if it is one
abbrev pub name_of : Tree → Option Identifier
name_of (tree.name i) = Some i
name_of _ = None

-- whether there is a name of these letters
abbrev pub is_called : List ℕ → Option Identifier → Bool
is_called letters None = false
is_called letters (Some i) = bytes_eq i.name letters

-- Rules of the reader, over what reads inside one more opener.
use Rattle.std.specs.Prelude.{ℕ}
use Rattle.jt_syntax.specs.Tree.{Tree, Step}
use Rattle.jt_grammar.specs.declared.Level.{Level}
use Rattle.jt_grammar.specs.Reader.{Parser, read, read_step}

-- a rule of the reader, over what reads inside one more opener
abbrev pub nested : {A : Type 0} → (ℕ → ℕ → (Level → Parser Tree) → Parser Step → A) → ℕ → ℕ → A
nested rule turns depth = rule turns depth (read turns depth) (read_step turns depth)

use Rattle.std.proofs.Common.{◌≡◌, ◌-◌, false}
use Rattle.jt_grammar.specs.Reader.{gap_from}
use Rattle.jt_cursor.proofs.cursor.Cursor.gap_from.Given as goal

abbrev pub invariant-loop-turn : goal.invariant-loop-turn
invariant-loop-turn l = gap_from l.turns false l.fn.self ≡ gap_from (l.turns - l._turn) l.any l.self

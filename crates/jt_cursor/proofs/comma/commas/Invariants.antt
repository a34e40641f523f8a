use Rattle.std.proofs.Common.{◌≡◌, ◌-◌, map}
use Rattle.jt_grammar.specs.Reader.{Parser, commas_from}
use Rattle.jt_syntax.specs.Tree.{Tree}
use Rattle.jt_syntax.specs.Tree as tree
use Rattle.jt_cursor.specs.Commas.{ParsesBy}
use Rattle.jt_cursor.proofs.comma.commas.Given as goal

abbrev pub invariant-loop-turn : goal.invariant-loop-turn
invariant-loop-turn g l = (of : g.row.T.Denot → Tree) (p : Parser Tree) → ParsesBy of p (goal.I-post g l.item)
    → commas_from p tree.no_trees tree.tree l.turns (map of l.fn.found) l.fn.tokens ≡ commas_from p tree.no_trees tree.tree (l.turns - l._turn) (map of l.found) l.tokens

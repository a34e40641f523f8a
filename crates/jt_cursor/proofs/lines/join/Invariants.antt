use Rattle.std.proofs.Common.{◌≡◌, ◌++◌, drop, map}
use Rattle.jt_grammar.specs.Joined.{joined, joined_from}
use Rattle.jt_cursor.specs.Tokens.{now}
use Rattle.jt_cursor.proofs.lines.join.Given as goal

abbrev pub invariant-loop-token : goal.invariant-loop-token
invariant-loop-token l = joined l.tokens ≡ map now l.kept.items ++ joined_from (l.stack.items, l.after) (drop l.token-index l.tokens)

use Rattle.std.proofs.Common.{◌≡◌, ◌-◌, [], map}
use Rattle.jt_syntax.specs.Tree.{no_steps, step}
use Rattle.jt_syntax.specs.View.{stmt_view}
use Rattle.jt_grammar.specs.Reader.{list_from, read_step}
use Rattle.jt_statements.proofs.phrases.Phrases.statements.Given as goal

abbrev pub invariant-loop-turn : goal.invariant-loop-turn
invariant-loop-turn g l =
    list_from l.self.rules.turns (read_step l.self.rules.turns l.self.rules.depth) no_steps step l.self.rules.turns [] l.fn.tokens
    ≡ list_from l.self.rules.turns (read_step l.self.rules.turns l.self.rules.depth) no_steps step (l._turn-end - l._turn) (map stmt_view l.found) l.tokens

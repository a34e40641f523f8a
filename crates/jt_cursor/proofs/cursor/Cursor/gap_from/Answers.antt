use Rattle.std.proofs.Common.{◌≡◌, ℕ, true, rules, arith}
use Rattle.std.proofs.lemmas.Grind.{common_steps}
use Rattle.jt_grammar.specs.Reader.{gap_from, is_separator, kind_of}
use Rattle.jt_cursor.proofs.Starts.{one_more, no_more, gap_goes}
use Rattle.jt_cursor.proofs.cursor.Cursor.gap_from.Goals as goal

pub returns-then-not-is_separator : goal.returns-then-not-is_separator
unfolding gap_from
returns-then-not-is_separator c =
    let e = one_more (λ (n : ℕ). gap_from n c.loop-turn.any c.loop-turn.self) _ c.loop-turn._turn c.loop-turn-test.true c.loop-turn.invariant in
    first_of (search rules, grind (arith, common_steps))

pub loop-turn-preserved : goal.loop-turn-preserved
loop-turn-preserved c =
    let sees : is_separator (kind_of c.loop-turn.self) ≡ true = search rules in
    gap_goes c.args.turns c.loop-turn._turn c.loop-turn.any c.loop-turn.self c.skip.new.self _ c.loop-turn-test.true sees c.in_ok-skip.ensures c.loop-turn.invariant

pub returns : goal.returns
unfolding gap_from
returns c =
    let e = no_more (λ (n : ℕ). gap_from n c.loop-turn.any c.loop-turn.self) _ c.loop-turn._turn c.loop-turn-test.false c.loop-turn.invariant in
    first_of (search rules, grind (arith, common_steps))

use Rattle.std.proofs.Common.{subst, sym}
use Rattle.jt_grammar.specs.Grammar.{EndsWithStop}
use Rattle.jt_printer.proofs.Whole.{ends_with_stop}
use Rattle.jt_tests.proofs.trees.script_of.Goals as goal

pub parse-requires-clause-whole : goal.parse-requires-clause-whole
parse-requires-clause-whole g c =
    subst EndsWithStop (sym c.as_slice.ensures.value) (ends_with_stop c.args.text.now c.in_ok-tokens.tokens.items c.in_ok-tokens.ensures.whole)

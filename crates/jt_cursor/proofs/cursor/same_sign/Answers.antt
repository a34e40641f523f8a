use Rattle.std.proofs.Common.{rules}
use Rattle.jt_grammar.specs.Reader.{same_sign}
use Rattle.jt_cursor.proofs.cursor.same_sign.Goals as goal

pub returns : goal.returns
unfolding same_sign
returns c = search rules

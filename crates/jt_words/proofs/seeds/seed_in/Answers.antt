use Rattle.std.proofs.Common.{arith}
use Rattle.jt_words.proofs.FiveFields.{fewer, more}
use Rattle.jt_words.proofs.seeds.seed_in.Goals as goal

pub returns-in_default : goal.returns-in_default
returns-in_default c = fewer c.args.fields.now (omega (arith, c.in_default.len_below))

pub returns-in_default-2 : goal.returns-in_default-2
returns-in_default-2 c = more c.args.fields.now (omega (arith, c.in_default.len_at_least))

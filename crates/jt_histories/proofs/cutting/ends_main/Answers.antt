-- The main task's path is empty.
use Rattle.std.proofs.Common.{ap, ◌∙◌}
use Rattle.jt_laws.specs.Entries.{ends}
use Rattle.jt_histories.proofs.Lists.{or_else}
use Rattle.jt_histories.proofs.MainEnd.{main_end}
use Rattle.jt_histories.proofs.cutting.ends_main.Goals as goal

pub returns-in-End : goal.returns-in-End
returns-in-End c = c.is_main.ensures ∙ main_end c.args.entry.now (or_else c.in-End.is (λ p. ap ends p.1) (λ p. ap ends p.1))

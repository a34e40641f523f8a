use Rattle.std.proofs.Common.{◌∙◌}
use Rattle.jt_rng.proofs.GeneratorLemmas.{same_five}
use Rattle.jt_rng.proofs.stream.TaskRng.words.Goals as goal

pub returns : goal.returns
returns c =
    rw (c.read_u64.ensures, c.read_u64-2.ensures, c.read_u64-3.ensures, c.read_u64-4.ensures)
    (same_five _ c.state-bytes.result _ c.self.invariant c.state-bytes.ensures ∙ c.self.view_is)

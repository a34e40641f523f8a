use Rattle.std.proofs.Common.{◌∙◌}
use Rattle.jt_rng.proofs.GeneratorLemmas.{started-words}
use Rattle.jt_rng.proofs.StreamLemmas.{started-stream_at, stream_at-main}
use Rattle.jt_rng.proofs.stream.TaskRng.from_words.Goals as goal

pub returns-clause-value : goal.returns-clause-value
returns-clause-value c = started-words c.args.words _ c.generator_of.ensures.value

pub returns-clause-beginning : goal.returns-clause-beginning
returns-clause-beginning c = returns-clause-value c ∙ stream_at-main c.args.words

pub returns-clause-taken : goal.returns-clause-taken
returns-clause-taken c seeds path e = returns-clause-value c ∙ started-stream_at c.args.words seeds path e

use Rattle.jt_rng.proofs.ForkLemmas.{fork_word_step}
use Rattle.jt_rng.proofs.words.next_fork_word.Goals as goal

pub returns : goal.returns
returns c = fork_word_step c.args.x

use Rattle.jt_rng.specs.Words.{child_words}
use Rattle.jt_rng.proofs.words.child_words.Goals as goal

pub returns : goal.returns
unfolding child_words
returns c = cc

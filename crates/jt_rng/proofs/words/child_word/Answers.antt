use Rattle.std.proofs.Common.{refl}
use Rattle.jt_rng.specs.Words.{child_word}
use Rattle.jt_rng.proofs.ForkLemmas.{mixed_sum}
use Rattle.jt_rng.proofs.words.child_word.Goals as goal

pub returns : goal.returns
unfolding child_word
returns c = rw (mixed_sum c.args.s _ _ refl) refl

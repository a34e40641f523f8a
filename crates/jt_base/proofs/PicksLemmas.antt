-- The step of rand_xoshiro's SplitMix64 is the one that Picks is defined by.
use Rattle.std.proofs.Common.{◌≡◌, ℕ, ap}
use Rattle.rand_xoshiro.specs.SplitMix64.{mix_u64}
use Rattle.jt_base.specs.Picks.{next_seed, mix64}

pub word_is : (s word after : ℕ) → (word, after) ≡ mix_u64 s → word ≡ mix64 (next_seed s)
unfolding next_seed mix64
word_is s word after e = ap (λ p. p.0) e

pub seed_is : (s word after : ℕ) → (word, after) ≡ mix_u64 s → after ≡ next_seed s
unfolding next_seed
seed_is s word after e = ap (λ p. p.1) e

-- The words that follow the state 1234567, as the reference code of SplitMix64 gives them.
use Rattle.std.proofs.Common.{◌≡◌, refl}
use Rattle.jt_base.specs.Picks.{next_seed, mix64}

first_word : mix64 (next_seed 1234567) ≡ 6457827717110365317
unfolding next_seed mix64
first_word = refl

second_word : mix64 (next_seed (next_seed 1234567)) ≡ 3203168211198807973
unfolding next_seed mix64
second_word = refl

-- the state of a step wraps
next_seed-wraps : next_seed 0x61c8864680b583eb ≡ 0
unfolding next_seed
next_seed-wraps = refl

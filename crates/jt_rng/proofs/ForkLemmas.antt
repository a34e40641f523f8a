-- A fork, word by word.
use Rattle.std.proofs.Common.{◌≡◌, ℕ, ◌+◌, ◌*◌, ◌%◌, ◌^◌, ap, ◌∙◌, arith}
use Rattle.std.proofs.lemmas.Nat.{mul-mod_second}
use Rattle.jt_rng.specs.Words.{next_fork_word}

pub fork_word_step : (x : ℕ) → (x * 0xd1342543de82ef95 % 2 ^ 64 + 1) % 2 ^ 64 ≡ next_fork_word x
unfolding next_fork_word
fork_word_step x = omega arith

-- the first sum of a child's word, as the machine wraps each step
pub mixed_sum : (s w scale : ℕ) → scale ≡ (s * 2 % 2 ^ 64 + 1) % 2 ^ 64 → (s + w * scale % 2 ^ 64) % 2 ^ 64 ≡ (s + w * (2 * s + 1)) % 2 ^ 64
mixed_sum s w scale e =
    let f : scale ≡ (2 * s + 1) % 2 ^ 64 = omega arith in
    let g : w * scale % 2 ^ 64 ≡ w * (2 * s + 1) % 2 ^ 64 = ap (λ k. w * k % 2 ^ 64) f ∙ mul-mod_second w (2 * s + 1) (2 ^ 64) in
    omega (arith, g)

-- The state of a random stream is a list of five words of 64 bits: four words of xoshiro256++
-- (Blackman and Vigna, "Scrambled linear pseudorandom number generators"), and the word by which
-- streams are forked.
use Rattle.std.specs.Prelude.{ℕ, ◌+◌, ◌*◌, ◌/◌, ◌%◌, ◌^◌, ◌==◌, ◌&&◌, List, [], ◌∷◌, ◌++◌, bit_xor, slice_index, if◌then◌else◌}
use Rattle.std.specs.Int.{w64, rotate_left}

-- the four words that a generator may begin with: all zero is no state of it
unfoldable pub nonzero : List ℕ → List ℕ
nonzero s =
    if (slice_index s 0 == 0) && (slice_index s 1 == 0) && (slice_index s 2 == 0) && (slice_index s 3 == 0)
    then (1 ∷ 0 ∷ 0 ∷ 0 ∷ [])
    else (slice_index s 0 ∷ slice_index s 1 ∷ slice_index s 2 ∷ slice_index s 3 ∷ [])

-- the state of a stream that begins with these five words
unfoldable pub started : List ℕ → List ℕ
started s = nonzero s ++ slice_index s 4 ∷ []

-- the word that a draw gives
unfoldable pub output_of : List ℕ → ℕ
output_of s =
    (rotate_left w64 ((slice_index s 0 + slice_index s 3) % 2 ^ 64) 23 + slice_index s 0) % 2 ^ 64

-- the state after a draw: the generator's words take a step, and the fifth word stays
unfoldable pub next_state : List ℕ → List ℕ
next_state s =
    let a = bit_xor (slice_index s 2) (slice_index s 0) in
    let b = bit_xor (slice_index s 3) (slice_index s 1) in
    bit_xor (slice_index s 0) b
    ∷ bit_xor (slice_index s 1) a
    ∷ bit_xor a (slice_index s 1 * 2 ^ 17 % 2 ^ 64)
    ∷ rotate_left w64 b 45
    ∷ slice_index s 4 ∷ []

-- the fifth word after a fork: a linear congruential step
unfoldable pub next_fork_word : ℕ → ℕ
next_fork_word x = (x * 0xd1342543de82ef95 + 1) % 2 ^ 64

-- the state after a fork: the generator's words stay
unfoldable pub after_fork : List ℕ → List ℕ
after_fork s =
    slice_index s 0 ∷ slice_index s 1 ∷ slice_index s 2 ∷ slice_index s 3 ∷ next_fork_word (slice_index s 4) ∷ []

-- c with its high bits laid over its low ones, k places down
abbrev pub folded : ℕ → ℕ → ℕ
folded c k = bit_xor c (c / 2 ^ k)

-- a word of a child: from its parent's word s and fifth word x, a constant a, and a multiplier m
unfoldable pub child_word : ℕ → ℕ → ℕ → ℕ → ℕ
child_word s x a m =
    let c = (s + bit_xor x a * (2 * s + 1)) % 2 ^ 64 in
    folded (folded c (c / 2 ^ 59 + 5) * m % 2 ^ 64) 43

-- the four words of a child, before those that are all zero are replaced
unfoldable pub child_words : List ℕ → List ℕ
child_words s =
    child_word (slice_index s 0) (slice_index s 4) 0x9e3779b97f4a7c15 0x2545f4914f6cdd1d
    ∷ child_word (slice_index s 1) (slice_index s 4) 0xbf58476d1ce4e5b9 0x94d049bb133111eb
    ∷ child_word (slice_index s 2) (slice_index s 4) 0x94d049bb133111eb 0xbf58476d1ce4e5b9
    ∷ child_word (slice_index s 3) (slice_index s 4) 0x2545f4914f6cdd1d 0x9e3779b97f4a7c15
    ∷ []

-- the state of the child that a fork makes
unfoldable pub forked : List ℕ → List ℕ
forked s = nonzero (child_words s) ++ next_fork_word (slice_index s 4) ∷ []

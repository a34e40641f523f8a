-- The definitions of streams, a step at a time.
use Rattle.std.proofs.Common.{◌≡◌, ℕ, suc, ◌+◌, List, refl, ap, arith}
use Rattle.jt_rng.specs.Words.{next_state, after_fork}
use Rattle.jt_rng.specs.Stream.{after, after_draws, after_forks, stream_after, stream_at}

pub no_draws : (s : List ℕ) → after_draws s 0 ≡ s
unfolding after_draws
no_draws s = refl

pub one_draw_more : (s : List ℕ) (d : ℕ) → after_draws s (d + 1) ≡ next_state (after_draws s d)
unfolding after_draws
one_draw_more s d = let e : d + 1 ≡ suc d = omega arith in ap (after_draws s) e

pub no_forks : (s : List ℕ) → after_forks s 0 ≡ s
unfolding after_forks
no_forks s = refl

pub one_fork_more : (s : List ℕ) (f : ℕ) → after_forks s (f + 1) ≡ after_fork (after_forks s f)
unfolding after_forks
one_fork_more s f = let e : f + 1 ≡ suc f = omega arith in ap (after_forks s) e

-- a stream behind draws and forks, and behind none
pub behind_both : (seeds : List ℕ) (path : List (ℕ × ℕ)) (d f : ℕ) → after_forks (after_draws (stream_at seeds path) d) f ≡ stream_after seeds path d f
unfolding stream_after after
behind_both seeds path d f = refl

pub behind_none : (seeds : List ℕ) (path : List (ℕ × ℕ)) → stream_at seeds path ≡ stream_after seeds path 0 0
unfolding stream_after after after_forks after_draws
behind_none seeds path = refl

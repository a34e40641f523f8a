-- The random stream of each task, by its fork path: for each ancestor, from the first on, how many
-- draws and how many forks it had made before the fork that leads on.
use Rattle.std.specs.Prelude.{ℕ, zero, suc, List, [], ◌∷◌}
use Rattle.jt_rng.specs.Words.{started, output_of, next_state, after_fork, forked}

-- a state after d draws
unfoldable pub after_draws : List ℕ → ℕ → List ℕ
after_draws s zero = s
after_draws s (suc d) = next_state (after_draws s d)

-- a state after f forks
unfoldable pub after_forks : List ℕ → ℕ → List ℕ
after_forks s zero = s
after_forks s (suc f) = after_fork (after_forks s f)

-- a state after d draws and f forks, in whichever order
unfoldable pub after : List ℕ → ℕ → ℕ → List ℕ
after s d f = after_forks (after_draws s d) f

-- the state to which a fork path leads from the state s
unfoldable pub descendant : List ℕ → List (ℕ × ℕ) → List ℕ
descendant s [] = s
descendant s (step ∷ path) = descendant (forked (after s step.0 step.1)) path

-- the state with which the stream of a fork path begins, where the main task's begins with `seeds`
unfoldable pub stream_at : List ℕ → List (ℕ × ℕ) → List ℕ
stream_at seeds path = descendant (started seeds) path

-- that state after d draws and f forks of its task
unfoldable pub stream_after : List ℕ → List (ℕ × ℕ) → ℕ → ℕ → List ℕ
stream_after seeds path d f = after (stream_at seeds path) d f

-- draw d of that stream, counted from 0
unfoldable pub draw_at : List ℕ → List (ℕ × ℕ) → ℕ → ℕ
draw_at seeds path d = output_of (after_draws (stream_at seeds path) d)

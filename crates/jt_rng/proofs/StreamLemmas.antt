-- Draws and forks along a fork path.
use Rattle.std.proofs.Common.{◌≡◌, ℕ, zero, suc, ◌+◌, List, [], ◌∷◌, ◌++◌, refl, ap, sym, ◌∙◌, arith}
use Rattle.std.specs.Prelude.{slice_index}
use Rattle.std.proofs.lemmas.Bool.{cond_both, cond-false}
use Rattle.jt_rng.proofs.GeneratorLemmas.{is_zero}
use Rattle.jt_rng.specs.Words.{started, nonzero, output_of, next_state, after_fork, forked, child_words, next_fork_word}
use Rattle.jt_rng.specs.Stream.{after_draws, after_forks, after, descendant, stream_at, stream_after, draw_at}

-- a draw and a fork may change places
next_state-after_fork : (s : List ℕ) → next_state (after_fork s) ≡ after_fork (next_state s)
unfolding next_state after_fork
next_state-after_fork s = refl

output_of-after_fork : (s : List ℕ) → output_of (after_fork s) ≡ output_of s
unfolding output_of after_fork
output_of-after_fork s = refl

next_state-after_forks : (s : List ℕ) (f : ℕ) → next_state (after_forks s f) ≡ after_forks (next_state s) f
unfolding after_forks
next_state-after_forks s zero = refl
next_state-after_forks s (suc f) = next_state-after_fork (after_forks s f) ∙ ap after_fork (next_state-after_forks s f)

output_of-after_forks : (s : List ℕ) (f : ℕ) → output_of (after_forks s f) ≡ output_of s
unfolding after_forks
output_of-after_forks s zero = refl
output_of-after_forks s (suc f) = output_of-after_fork (after_forks s f) ∙ output_of-after_forks s f

pub draw_along : (seeds : List ℕ) (path : List (ℕ × ℕ)) (d f : ℕ) → output_of (stream_after seeds path d f) ≡ draw_at seeds path d
unfolding stream_after after draw_at
draw_along seeds path d f = output_of-after_forks (after_draws (stream_at seeds path) d) f

pub next_along : (seeds : List ℕ) (path : List (ℕ × ℕ)) (d f : ℕ) → next_state (stream_after seeds path d f) ≡ stream_after seeds path (d + 1) f
unfolding stream_after after after_draws
next_along seeds path d f =
    let e : d + 1 ≡ suc d = omega arith in
    next_state-after_forks (after_draws (stream_at seeds path) d) f ∙ ap (λ n. after_forks (after_draws (stream_at seeds path) n) f) (sym e)

pub fork_along : (seeds : List ℕ) (path : List (ℕ × ℕ)) (d f : ℕ) → after_fork (stream_after seeds path d f) ≡ stream_after seeds path d (f + 1)
unfolding stream_after after after_forks
fork_along seeds path d f = let e : f + 1 ≡ suc f = omega arith in sym (ap (stream_after seeds path d) e)

descendant-append : (s : List ℕ) (path : List (ℕ × ℕ)) (d f : ℕ) → descendant s (path ++ (d, f) ∷ []) ≡ forked (after (descendant s path) d f)
unfolding descendant
descendant-append s [] d f = refl
descendant-append s (step ∷ path) d f = descendant-append (forked (after s step.0 step.1)) path d f

pub child_along : (seeds : List ℕ) (path : List (ℕ × ℕ)) (d f : ℕ) → forked (stream_after seeds path d f) ≡ stream_at seeds (path ++ (d, f) ∷ [])
unfolding stream_after stream_at
child_along seeds path d f = sym (descendant-append (started seeds) path d f)

pub stream_at-main : (seeds : List ℕ) → started seeds ≡ stream_at seeds []
unfolding stream_at descendant
stream_at-main seeds = refl

-- ---- a beginning is taken as it is

started-nonzero : (w : List ℕ) (x : ℕ) → started (nonzero w ++ x ∷ []) ≡ nonzero w ++ x ∷ []
unfolding started nonzero
started-nonzero w x =
    cond_both (is_zero w) (1 ∷ 0 ∷ 0 ∷ 0 ∷ []) (slice_index w 0 ∷ slice_index w 1 ∷ slice_index w 2 ∷ slice_index w 3 ∷ [])
    (λ g. started (g ++ x ∷ []) ≡ g ++ x ∷ [])
    (λ _. refl)
    (λ e. ap (λ h. h ++ x ∷ []) (cond-false (is_zero w) (1 ∷ 0 ∷ 0 ∷ 0 ∷ []) (slice_index w 0 ∷ slice_index w 1 ∷ slice_index w 2 ∷ slice_index w 3 ∷ []) e))

started-forked : (s : List ℕ) → started (forked s) ≡ forked s
unfolding forked
started-forked s = started-nonzero (child_words s) (next_fork_word (slice_index s 4))

started-started : (s : List ℕ) → started (started s) ≡ started s
unfolding started
started-started s = started-nonzero s (slice_index s 4)

started-descendant : (s : List ℕ) (path : List (ℕ × ℕ)) → started s ≡ s → started (descendant s path) ≡ descendant s path
unfolding descendant
started-descendant s [] e = e
started-descendant s (step ∷ path) e = started-descendant (forked (after s step.0 step.1)) path (started-forked (after s step.0 step.1))

pub started-stream_at : (words seeds : List ℕ) (path : List (ℕ × ℕ)) → words ≡ stream_at seeds path → started words ≡ words
unfolding stream_at
started-stream_at words seeds path e = ap started e ∙ started-descendant (started seeds) path (started-started seeds) ∙ sym e

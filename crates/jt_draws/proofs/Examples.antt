-- Worked values of the definitions. The main task's draws are those of the reference code of
-- xoshiro256++; the others were worked out from the formulas by another program.
use Rattle.std.proofs.Common.{◌≡◌, [], ◌∷◌, refl}
use Rattle.std.specs.Fmt.{digits}
use Rattle.std.specs.Prelude.{codes}
use Rattle.jt_rng.specs.Words.{after_fork, child_word, child_words, forked, next_fork_word, next_state, nonzero, output_of, started}
use Rattle.jt_rng.specs.Stream.{after, after_draws, after_forks, descendant, draw_at, stream_at}
use Rattle.jt_draws.specs.Draws.{draws_text, first_draws, fork_path, number_lines}

-- two draws of the main task
of_the_main_task : draws_text (record { seeds = record { words = 1 ∷ 2 ∷ 3 ∷ 4 ∷ 5 ∷ [] }; count = 2; ancestry = [] }) ≡ codes "41943041\n58720359\n"
unfolding draws_text draw_at stream_at descendant started nonzero after_draws next_state output_of digits
of_the_main_task = refl

-- a task's two ancestors
two_ancestors : fork_path (record { draws = 1; forks = 0 } ∷ record { draws = 0; forks = 2 } ∷ []) ≡ (1, 0) ∷ (0, 2) ∷ []
two_ancestors = refl

-- the draws of a task by its ancestors: the main task had drawn three times and forked once before the
-- fork that leads on, and its child had forked twice; and with the two in the other order
of_a_grandchild : first_draws (1 ∷ 2 ∷ 3 ∷ 4 ∷ 5 ∷ []) ((3, 1) ∷ (0, 2) ∷ []) 3 ≡ 16507661414243898763 ∷ 1475294619342877684 ∷ 5867492250633890907 ∷ []
unfolding draw_at stream_at descendant after after_draws after_forks started nonzero next_state output_of after_fork forked child_words child_word next_fork_word
of_a_grandchild = refl

of_another_grandchild : first_draws (1 ∷ 2 ∷ 3 ∷ 4 ∷ 5 ∷ []) ((0, 2) ∷ (3, 1) ∷ []) 3 ≡ 2352704961194770148 ∷ 4741382155402071767 ∷ 78949017470361369 ∷ []
unfolding draw_at stream_at descendant after after_draws after_forks started nonzero next_state output_of after_fork forked child_words child_word next_fork_word
of_another_grandchild = refl

nothing_drawn : first_draws (1 ∷ 2 ∷ 3 ∷ 4 ∷ 5 ∷ []) [] 0 ≡ []
nothing_drawn = refl

three_lines : number_lines (0 ∷ 18446744073709551615 ∷ 7 ∷ []) ≡ codes "0\n18446744073709551615\n7\n"
unfolding digits
three_lines = refl

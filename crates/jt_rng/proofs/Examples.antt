-- Worked values of the definitions. The words of xoshiro256++ are those of its reference code.
use Rattle.std.proofs.Common.{◌≡◌, [], ◌∷◌, refl}
use Rattle.jt_rng.specs.Words.{nonzero, started, output_of, next_state, after_fork, forked, child_words, child_word, next_fork_word}
use Rattle.jt_rng.specs.Stream.{after_draws, after_forks, after, descendant, stream_at, draw_at}
use Rattle.jt_rng.specs.Range.{range_value}
use Rattle.std.specs.Prelude.{pos, neg_ℤ, ◌^◌}

first_word : output_of (1 ∷ 2 ∷ 3 ∷ 4 ∷ 0 ∷ []) ≡ 41943041
unfolding output_of
first_word = refl

third_word : output_of (next_state (next_state (1 ∷ 2 ∷ 3 ∷ 4 ∷ 0 ∷ []))) ≡ 3588806011781223
unfolding output_of next_state
third_word = refl

parent_after_fork : after_fork (1 ∷ 2 ∷ 3 ∷ 4 ∷ 0 ∷ []) ≡ 1 ∷ 2 ∷ 3 ∷ 4 ∷ 1 ∷ []
unfolding after_fork next_fork_word
parent_after_fork = refl

child_of_fork : forked (1 ∷ 2 ∷ 3 ∷ 4 ∷ 0 ∷ []) ≡ 400053721905147028 ∷ 7419159123334088134 ∷ 8523320432977287591 ∷ 8232843362355844771 ∷ 1 ∷ []
unfolding forked nonzero child_words child_word next_fork_word
child_of_fork = refl

four_zeros : started (0 ∷ 0 ∷ 0 ∷ 0 ∷ 7 ∷ []) ≡ 1 ∷ 0 ∷ 0 ∷ 0 ∷ 7 ∷ []
unfolding started nonzero
four_zeros = refl

not_four_zeros : started (0 ∷ 0 ∷ 0 ∷ 1 ∷ 7 ∷ []) ≡ 0 ∷ 0 ∷ 0 ∷ 1 ∷ 7 ∷ []
unfolding started nonzero
not_four_zeros = refl

-- the first child of the third child of the main task, where the main task had drawn once before
-- its first fork, and the child forked twice before this one
grandchild : stream_at (1 ∷ 2 ∷ 3 ∷ 4 ∷ 0 ∷ []) ((1, 0) ∷ (0, 2) ∷ []) ≡ 4073232124838053 ∷ 8143011173313441442 ∷ 10243217913204358002 ∷ 8936149699004388076 ∷ 17765461988220738300 ∷ []
unfolding stream_at descendant after after_draws after_forks started nonzero next_state after_fork forked child_words child_word next_fork_word
grandchild = refl

grandchilds_draw : draw_at (1 ∷ 2 ∷ 3 ∷ 4 ∷ 0 ∷ []) ((1, 0) ∷ (0, 2) ∷ []) 1 ≡ 14775512328047790046
unfolding draw_at stream_at descendant after after_draws after_forks started nonzero next_state output_of after_fork forked child_words child_word next_fork_word
grandchilds_draw = refl

-- 1:10, and the whole range of an Int64
one_to_ten : range_value (pos 1) (pos 10) 58720359 ≡ pos 10
unfolding range_value
one_to_ten = refl

whole_range : range_value (neg_ℤ (pos (2 ^ 63))) (pos 9223372036854775807) 9228616714210784205 ≡ pos 5244677356008397
unfolding range_value
whole_range = refl

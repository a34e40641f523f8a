-- The text that `draws` writes.
use Rattle.std.specs.Prelude.{ℕ, zero, suc, List, [], ◌∷◌, ◌++◌, decimal, flat_map, map}
use Rattle.jt_rng.specs.Stream.{draw_at}
use Rattle.jt_words.specs.declared.ancestry.Ancestor.{Ancestor}
use Rattle.jt_words.specs.declared.command.DrawsOptions.{DrawsOptions}

-- the fork path of the task with these ancestors: for each, how many draws and how many forks it had made
abbrev pub fork_path : List Ancestor → List (ℕ × ℕ)
fork_path ancestors = map (λ ancestor. (ancestor.draws, ancestor.forks)) ancestors

-- the first draws of the stream of a fork path, where the main task's begins with `seeds`
abbrev pub first_draws : List ℕ → List (ℕ × ℕ) → ℕ → List ℕ
first_draws seeds path zero = []
first_draws seeds path (suc d) = first_draws seeds path d ++ draw_at seeds path d ∷ []

-- a line for each number: the number in decimal, and a newline
abbrev pub number_lines : List ℕ → List ℕ
number_lines numbers = flat_map (λ number. decimal number ++ 10 ∷ []) numbers

-- the lines of as many first draws as are asked for, of the task with the ancestors that are named
unfoldable pub draws_text : DrawsOptions → List ℕ
draws_text options = number_lines (first_draws options.seeds.words (fork_path options.ancestry) options.count)

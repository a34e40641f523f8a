-- A path that grows by the index of a word.
use Rattle.std.specs.Prelude.{ℕ, nat_lt, if◌then◌else◌, List, [], ◌∷◌, ◌++◌, length, Option, None, option_map}
use Rattle.jt_base.specs.Names.{most_indexes}
use Rattle.jt_trace_text.specs.Lines.{Bytes}
use Rattle.jt_trace_text.specs.Words.{most_u32}
use Rattle.jt_trace_text.specs.WordReaders.{number_in}

-- none where the path is full
abbrev pub grown : List ℕ → Bytes → Option (List ℕ)
grown path w = if nat_lt (length path) most_indexes then option_map (λ (k : ℕ). path ++ k ∷ []) (number_in 0 most_u32 w) else None

-- The script, cut at its size.
use Rattle.std.proofs.Common.{◌≡◌, ℕ, List, [], ◌∷◌, ◌++◌, ap, sym, ◌∙◌, take, drop, append_assoc}
use Rattle.std.specs.Prelude.{codes, decimal, flat_map}
use Rattle.jt_gen.specs.Script.{generated_lines, generated_script}

abbrev whole_lines : List (List ℕ) → List ℕ
whole_lines lines = flat_map (λ line. line ++ 10 ∷ []) lines

-- what stands before the size
abbrev pub before_size : List ℕ
before_size = whole_lines (take 16 (generated_lines 0)) ++ codes "@sync for k in 1:"

-- what stands behind it
abbrev pub behind_size : List ℕ
behind_size = 10 ∷ whole_lines (drop 17 (generated_lines 0))

-- the script behind other bytes
pub script_parts : (bytes : List ℕ) (size : ℕ) → ((bytes ++ before_size) ++ decimal size) ++ behind_size ≡ bytes ++ generated_script size
unfolding generated_script
script_parts bytes size =
    append_assoc (bytes ++ before_size) (decimal size) behind_size
    ∙ append_assoc bytes before_size (decimal size ++ behind_size)
    ∙ ap (λ rest. bytes ++ (before_size ++ rest)) (sym (append_assoc (decimal size) (10 ∷ []) (whole_lines (drop 17 (generated_lines 0)))))

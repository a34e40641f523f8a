-- The text of the generated script, and the line that tells its size.
use Rattle.std.specs.Prelude.{ℕ, List, [], ◌∷◌, ◌++◌, codes, decimal, flat_map}

-- the lines of the script with this many producers
abbrev pub generated_lines : ℕ → List (List ℕ)
generated_lines size =
    codes "function produce(c, total, k)"
    ∷ codes "    for j in 1:1000"
    ∷ codes "        put!(c, k)"
    ∷ codes "        Threads.atomic_add!(total, 1)"
    ∷ codes "    end"
    ∷ codes "end"
    ∷ codes "function sum_all(c)"
    ∷ codes "    s = 0"
    ∷ codes "    for x in c"
    ∷ codes "        s = s + x"
    ∷ codes "    end"
    ∷ codes "    s"
    ∷ codes "end"
    ∷ codes "c = Channel{Int64}(32)"
    ∷ codes "total = Threads.Atomic{Int64}(0)"
    ∷ codes "reader = Threads.@spawn sum_all(c)"
    ∷ (codes "@sync for k in 1:" ++ decimal size)
    ∷ codes "    Threads.@spawn produce(c, total, k)"
    ∷ codes "end"
    ∷ codes "close(c)"
    ∷ codes "println(total[])"
    ∷ codes "println(fetch(reader))"
    ∷ []

-- the script: its lines, each with a newline behind it
unfoldable pub generated_script : ℕ → List ℕ
generated_script size = flat_map (λ line. line ++ 10 ∷ []) (generated_lines size)

-- the line that tells the size
unfoldable pub size_line : ℕ → List ℕ
size_line size = codes "size " ++ (decimal size ++ 10 ∷ [])

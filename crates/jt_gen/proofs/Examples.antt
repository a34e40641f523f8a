-- Worked values of the definitions.
use Rattle.std.proofs.Common.{◌≡◌, refl}
use Rattle.std.specs.Fmt.{digits}
use Rattle.std.specs.Prelude.{codes}
use Rattle.jt_gen.specs.Script.{generated_script, size_line}

two_producers : generated_script 2 ≡ codes "function produce(c, total, k)\n    for j in 1:1000\n        put!(c, k)\n        Threads.atomic_add!(total, 1)\n    end\nend\nfunction sum_all(c)\n    s = 0\n    for x in c\n        s = s + x\n    end\n    s\nend\nc = Channel{Int64}(32)\ntotal = Threads.Atomic{Int64}(0)\nreader = Threads.@spawn sum_all(c)\n@sync for k in 1:2\n    Threads.@spawn produce(c, total, k)\nend\nclose(c)\nprintln(total[])\nprintln(fetch(reader))\n"
unfolding generated_script digits
two_producers = refl

size_of_eighty : size_line 80 ≡ codes "size 80\n"
unfolding size_line digits
size_of_eighty = refl

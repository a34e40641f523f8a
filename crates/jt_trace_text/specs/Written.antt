-- The text of a trace as a function: what is written where the trace has a text.
use Rattle.std.specs.Prelude.{ℕ, List, [], ◌∷◌, ◌++◌, length, codes, decimal}
use Rattle.jt_base.specs.declared.entry.Entry.{Entry}
use Rattle.jt_base.specs.declared.run.Limits.{Limits}
use Rattle.jt_base.specs.declared.run.Sizes.{Sizes}
use Rattle.jt_trace_text.specs.Lines.{Bytes}
use Rattle.jt_trace_text.specs.Entries.{entry_line}
use Rattle.jt_trace_text.specs.Texts.{TraceValue}

-- a number and the byte that ends it
abbrev pub ended : ℕ → ℕ → Bytes
ended ending n = decimal n ++ ending ∷ []

-- a line of a word and a number
abbrev pub numbered : Bytes → ℕ → Bytes
numbered word n = word ++ ended 10 n

abbrev pub threads_text : Sizes → Bytes
threads_text sizes = codes "threads " ++ (ended 44 sizes.default ++ ended 10 sizes.interactive)

-- of five words
abbrev pub seed_text : List ℕ → Bytes
seed_text (a ∷ b ∷ c ∷ d ∷ e ∷ []) = codes "seed " ++ (ended 44 a ++ (ended 44 b ++ (ended 44 c ++ (ended 44 d ++ ended 10 e))))
seed_text words = []

abbrev pub limits_text : Limits → Bytes
limits_text limits = numbered (codes "max-turns ") limits.turns ++ numbered (codes "max-events ") limits.events

abbrev pub script_text : Bytes → Bytes
script_text script = numbered (codes "script ") (length script) ++ (script ++ 10 ∷ [])

abbrev pub entries_text : List Entry → Bytes
entries_text [] = []
entries_text (e ∷ es) = entry_line e ++ entries_text es

-- the lines before the script
abbrev pub header_text : TraceValue → Bytes
header_text t = numbered (codes "julia-tasks trace ") 1 ++ (threads_text t.sizes ++ (seed_text t.seeds.words ++ limits_text t.limits))

abbrev pub trace_text : TraceValue → Bytes
trace_text t = header_text t ++ (script_text t.script ++ (numbered (codes "entries ") (length t.entries) ++ entries_text t.entries))

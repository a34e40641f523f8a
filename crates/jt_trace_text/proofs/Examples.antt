-- Worked examples, by computing: lines, and a whole trace with its text.
use Rattle.std.proofs.Common.{◌≡◌, ℕ, List, [], ◌∷◌, ◌++◌, Some, None, refl}
use Rattle.std.specs.Prelude.{codes, pos, negsuc}
use Rattle.std.specs.Fmt.{digits}
use Rattle.hex.specs.Hex.{encode_with}
use Rattle.jt_base.specs.declared.entry.Entry.{Entry}
use Rattle.jt_base.specs.declared.name.Name.{Name}
use Rattle.jt_base.specs.declared.operation.Fault.TheVariants as fault
use Rattle.jt_base.specs.declared.operation.How.TheVariants as how
use Rattle.jt_base.specs.declared.operation.Op.{Op}
use Rattle.jt_base.specs.declared.operation.Op.TheVariants as op
use Rattle.jt_base.specs.declared.operation.Reply.{Reply}
use Rattle.jt_base.specs.declared.operation.Reply.TheVariants as reply
use Rattle.jt_base.specs.declared.value.Kind.TheVariants as kind
use Rattle.jt_base.specs.declared.value.Value.TheVariants as value
use Rattle.jt_trace_text.specs.Lines.{Bytes, first_lines}
use Rattle.jt_trace_text.specs.Entries.{entry_line}
use Rattle.jt_trace_text.specs.Texts.{TraceValue}
use Rattle.jt_trace_text.specs.Words.{name_text, value_text, fault_text}
use Rattle.jt_trace_text.specs.Written.{trace_text}

line : Bytes → Bytes
line words = words ++ 10 ∷ []

object : Name
object = record { path = 0 ∷ 3 ∷ []; number = 2 }

of_entry : List ℕ → ℕ → ℕ → Op → Reply → Entry
of_entry task stamp worker o r = record { stamp = stamp; worker = worker; task = task; op = o; reply = r }

-- ---- words

named : name_text object ≡ codes "m.0.3#2"
unfolding digits object
named = refl

handle : value_text (value.Object kind.Semaphore object) ≡ codes "semaphore:m.0.3#2"
unfolding digits object
handle = refl

failed_task : fault_text (fault.TaskFailed (0 ∷ [])) ≡ codes "taskfailed:m.0"
unfolding digits
failed_task = refl

message : fault_text (fault.Error (codes "no")) ≡ codes "error:x6e6f"
unfolding encode_with
message = refl

-- ---- lines

take_line : entry_line (of_entry [] 5 0 (op.Take object) (reply.Int (pos 6))) ≡ line (codes "5 0 m take m.0.3#2 = 6")
unfolding digits object of_entry line
take_line = refl

put_line : entry_line (of_entry (1 ∷ []) 40 2 (op.Put object (negsuc 6)) reply.Closed) ≡ line (codes "40 2 m.1 put m.0.3#2 -7 = closed")
unfolding digits object of_entry line
put_line = refl

spawn_line : entry_line (of_entry [] 2 0 (op.Spawn (0 ∷ []) (how.Chunk 3)) reply.Ok) ≡ line (codes "2 0 m spawn m.0 chunk:3 = ok")
unfolding digits of_entry line
spawn_line = refl

swap_line : entry_line (of_entry [] 9 0 (op.ACas object (pos 1) (negsuc 0)) (reply.Int (pos 4))) ≡ line (codes "9 0 m acas m.0.3#2 1 -1 = 4")
unfolding digits object of_entry line
swap_line = refl

fetch_line : entry_line (of_entry [] 7 1 (op.Fetch (0 ∷ [])) (reply.Val value.Nothing)) ≡ line (codes "7 1 m fetch m.0 = nothing")
unfolding digits of_entry line
fetch_line = refl

-- ---- lines of a text

two_lines : first_lines 2 (codes "a" ++ 10 ∷ (10 ∷ codes "b")) ≡ Some (codes "a" ++ 10 ∷ 10 ∷ [])
two_lines = refl

no_third : first_lines 3 (codes "a" ++ 10 ∷ (10 ∷ codes "b")) ≡ None
no_third = refl

-- ---- a trace

sample : TraceValue
sample = record {
  sizes = record { default = 1; interactive = 0 };
  seeds = record { words = 1 ∷ 2 ∷ 3 ∷ 4 ∷ 5 ∷ [] };
  limits = record { turns = 100000000; events = 262144 };
  script = line (codes "println(3)");
  entries = of_entry [] 1 0 op.Begin reply.Ok ∷ of_entry [] 2 0 (op.Print (codes "3")) reply.Ok ∷ of_entry [] 3 0 (op.End value.Nothing) reply.Ok ∷ [];
}

document : Bytes
document =
    line (codes "julia-tasks trace 1") ++ (line (codes "threads 1,0") ++ (line (codes "seed 1,2,3,4,5") ++ (line (codes "max-turns 100000000") ++ (line (codes "max-events 262144")
    ++ (line (codes "script 11") ++ (line (codes "println(3)") ++ (line [] ++ (line (codes "entries 3")
    ++ (line (codes "1 0 m begin = ok") ++ (line (codes "2 0 m print x33 = ok") ++ line (codes "3 0 m end nothing = ok")))))))))))

whole : trace_text sample ≡ document
unfolding digits encode_with of_entry line sample document
whole = refl

-- What a function gives that reads a part of a text and takes memory.
use Rattle.std.specs.Prelude.{◌≡◌, ℕ, Option, Some, None, Result, Ok, Err}
use Rattle.jt_trace.specs.declared.unread.Unread.{Unread}
use Rattle.jt_trace.specs.declared.unread.Unread.TheVariants as unread
use Rattle.jt_trace.specs.declared.unread.TraceError.{TraceError}
use Rattle.jt_trace.specs.declared.unread.TraceError.TheVariants as error

-- nothing is said of want of memory
abbrev pub Misses : {B : Type 0} → Unread → Option B → Type 0
Misses unread.Malformed o = o ≡ None
Misses unread.Memory o = Unit {0}

-- what the reader on lists gives, where memory doesn't fail
abbrev pub Gives : {A B : Type 0} → (A → B) → Result A Unread → Option B → Type 0
Gives view (Ok x) o = o ≡ Some (view x)
Gives view (Err e) o = Misses e o

abbrev pub Tells : {B : Type 0} → TraceError → Result B ℕ → Type 0
Tells (error.BadLine n) r = r ≡ Err n
Tells error.OutOfMemory r = Unit {0}

-- the same of whole texts, whose readers tell a line
abbrev pub Answers : {A B : Type 0} → (A → B) → Result A TraceError → Result B ℕ → Type 0
Answers view (Ok x) r = r ≡ Ok (view x)
Answers view (Err e) r = Tells e r

-- The words of a trace's lines: how each is written, and which values have one.
use Rattle.std.specs.Prelude.{◌≡◌, ℕ, ◌<◌, ◌≤◌, ◌^◌, ℤ, pos, negsuc, Bool, true, false, List, [], ◌∷◌, ◌++◌, length, codes, decimal, IsUtf8}
use Rattle.std.specs.Fmt.{signed_decimal}
use Rattle.std.specs.List.{AllByRecursion}
use Rattle.hex.specs.Hex.{encode_lower}
use Rattle.jt_base.specs.declared.name.Name.{Name}
use Rattle.jt_base.specs.declared.operation.Fault.{Fault}
use Rattle.jt_base.specs.declared.operation.Fault.TheVariants as fault
use Rattle.jt_base.specs.declared.operation.How.{How}
use Rattle.jt_base.specs.declared.operation.How.TheVariants as how
use Rattle.jt_base.specs.declared.value.Kind.{Kind}
use Rattle.jt_base.specs.declared.value.Kind.TheVariants as kind
use Rattle.jt_base.specs.declared.value.Value.{Value}
use Rattle.jt_base.specs.declared.value.Value.TheVariants as value
use Rattle.jt_base.specs.Names.{most_indexes}
use Rattle.jt_trace_text.specs.Lines.{Bytes}

-- ---- numbers

-- the greatest numbers of 32 and of 64 bits
abbrev pub most_u32 : ℕ
most_u32 = 4294967295

abbrev pub most_u64 : ℕ
most_u64 = 18446744073709551615

-- decimal without leading zeros, from the least to the most
pub record IsDecimal (least most n : ℕ) (w : Bytes) : Type 0 where
  pub small : n < 2 ^ 64
  pub low : least ≤ n
  pub high : n ≤ most
  pub is : w ≡ decimal n

-- a whole number of 64 bits
abbrev pub Signed : ℤ → Type 0
Signed (pos n) = n < 2 ^ 63
Signed (negsuc n) = n < 2 ^ 63

-- a negative one has a minus sign
pub record IsInt (z : ℤ) (w : Bytes) : Type 0 where
  pub fits : Signed z
  pub is : w ≡ signed_decimal z

abbrev pub flag_text : Bool → Bytes
flag_text true = codes "true"
flag_text false = codes "false"

-- ---- paths and names

-- a dot and the number for each index
abbrev pub indexes_text : List ℕ → Bytes
indexes_text [] = []
indexes_text (k ∷ ks) = (codes "." ++ decimal k) ++ indexes_text ks

-- as `m.0.3`
abbrev pub path_text : List ℕ → Bytes
path_text path = codes "m" ++ indexes_text path

abbrev pub IsIndex : ℕ → Type 0
IsIndex k = k ≤ most_u32

pub record IsPath (path : List ℕ) (w : Bytes) : Type 0 where
  pub short : length path ≤ most_indexes
  pub each : AllByRecursion IsIndex path
  pub is : w ≡ path_text path

-- as `m#0`: the maker's path, and the number among its objects
abbrev pub name_text : Name → Bytes
name_text name = path_text name.path ++ (codes "#" ++ decimal name.number)

pub record IsNameWord (name : Name) (w : Bytes) : Type 0 where
  pub path : IsPath name.path (path_text name.path)
  pub number : name.number ≤ most_u32
  pub is : w ≡ name_text name

-- ---- texts

-- as `x6e6f`: behind an `x` two digits for each byte
abbrev pub hex_text : Bytes → Bytes
hex_text text = codes "x" ++ encode_lower text

pub record IsHex (t w : Bytes) : Type 0 where
  pub text : IsUtf8 t
  pub is : w ≡ hex_text t

-- ---- how a task is made

abbrev pub how_text : How → Bytes
how_text how.Default = codes "default"
how_text how.Interactive = codes "interactive"
how_text how.Async = codes "async"
how_text (how.Chunk k) = codes "chunk:" ++ decimal k

abbrev pub FitsHow : How → Type 0
FitsHow (how.Chunk k) = k ≤ most_u32
FitsHow h = Unit {0}

pub record IsHow (h : How) (w : Bytes) : Type 0 where
  pub fits : FitsHow h
  pub is : w ≡ how_text h

-- ---- values

abbrev pub kind_text : Kind → Bytes
kind_text kind.Channel = codes "channel"
kind_text kind.Unbuffered = codes "unbuffered"
kind_text kind.Atomic = codes "atomic"
kind_text kind.Event = codes "event"
kind_text kind.Condition = codes "condition"
kind_text kind.Lock = codes "lock"
kind_text kind.Semaphore = codes "semaphore"

abbrev pub value_text : Value → Bytes
value_text (value.Int z) = signed_decimal z
value_text (value.Flag b) = flag_text b
value_text value.Nothing = codes "nothing"
value_text (value.Task path) = codes "task:" ++ path_text path
value_text (value.Object k name) = kind_text k ++ (codes ":" ++ name_text name)

abbrev pub FitsValue : Value → Type 0
FitsValue (value.Int z) = Signed z
FitsValue (value.Task path) = IsPath path (path_text path)
FitsValue (value.Object k name) = IsNameWord name (name_text name)
FitsValue v = Unit {0}

pub record IsValue (v : Value) (w : Bytes) : Type 0 where
  pub fits : FitsValue v
  pub is : w ≡ value_text v

-- ---- faults

abbrev pub fault_text : Fault → Bytes
fault_text fault.Divide = codes "divide"
fault_text fault.Domain = codes "domain"
fault_text fault.EmptyRange = codes "emptyrange"
fault_text fault.Method = codes "method"
fault_text fault.Undefined = codes "undefined"
fault_text fault.TurnLimit = codes "turnlimit"
fault_text fault.StackLimit = codes "stacklimit"
fault_text fault.ForkTooDeep = codes "forktoodeep"
fault_text fault.ChannelClosed = codes "channelclosed"
fault_text fault.NotLocked = codes "notlocked"
fault_text fault.NotOwner = codes "notowner"
fault_text fault.ReleaseFree = codes "releasefree"
fault_text fault.StaticNested = codes "staticnested"
fault_text (fault.TaskFailed path) = codes "taskfailed:" ++ path_text path
fault_text (fault.Error text) = codes "error:" ++ hex_text text

abbrev pub FitsFault : Fault → Type 0
FitsFault (fault.TaskFailed path) = IsPath path (path_text path)
FitsFault (fault.Error text) = IsHex text (hex_text text)
FitsFault f = Unit {0}

pub record IsFault (f : Fault) (w : Bytes) : Type 0 where
  pub fits : FitsFault f
  pub is : w ≡ fault_text f

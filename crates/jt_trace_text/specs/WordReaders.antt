-- Reading whole words.
use Rattle.std.specs.Prelude.{ℕ, zero, suc, ◌^◌, ℤ, pos, negsuc, Bool, true, false, ◌&&◌, if◌then◌else◌, nat_lt, nat_le, List, [], ◌∷◌, Option, Some, None, Result, Ok, Err, option_map, option_and_then, codes, decimal}
use Rattle.std.specs.Str.{bytes_eq, is_utf8}
use Rattle.std.specs.Str.Parse.{digits_value}
use Rattle.hex.specs.Hex.{encode_lower, decode_of}
use Rattle.hex.specs.declared.error.FromHexError.{FromHexError}
use Rattle.jt_base.specs.declared.name.Name.{Name}
use Rattle.jt_base.specs.declared.operation.Fault.{Fault}
use Rattle.jt_base.specs.declared.operation.Fault.TheVariants as fault
use Rattle.jt_base.specs.declared.operation.How.{How}
use Rattle.jt_base.specs.declared.operation.How.TheVariants as how
use Rattle.jt_base.specs.declared.value.Kind.{Kind}
use Rattle.jt_base.specs.declared.value.Kind.TheVariants as kind
use Rattle.jt_base.specs.declared.value.Value.{Value}
use Rattle.jt_base.specs.declared.value.Value.TheVariants as value
use Rattle.jt_base.specs.Names.{most_indexes}
use Rattle.jt_trace_text.specs.Lines.{Bytes}
use Rattle.jt_trace_text.specs.Readers.{cut, field, literal, lookup}
use Rattle.jt_trace_text.specs.Words.{most_u32}

-- ---- numbers

-- the number that is written so in decimal
abbrev pub number_of : Bytes → Option ℕ
number_of w = if nat_lt (digits_value 10 w) (2 ^ 64) && bytes_eq w (decimal (digits_value 10 w)) then Some (digits_value 10 w) else None

abbrev pub within : ℕ → ℕ → ℕ → Option ℕ
within low high n = if nat_le low n && nat_le n high then Some n else None

unfoldable pub number_in : ℕ → ℕ → Bytes → Option ℕ
number_in low high w = option_and_then (within low high) (number_of w)

abbrev pub negative : ℕ → ℤ
negative zero = pos 0
negative (suc n) = negsuc n

-- behind a minus sign, or without one
abbrev pub signed : Option Bytes → Bytes → Option ℤ
signed (Some digits) w = option_map negative (number_in 1 9223372036854775808 digits)
signed None w = option_map (λ (n : ℕ). pos n) (number_in 0 9223372036854775807 w)

unfoldable pub int_of : Bytes → Option ℤ
int_of w = signed (literal (codes "-") w) w

abbrev pub flags : List (Bytes × Bool)
flags = (codes "true", true) ∷ (codes "false", false) ∷ []

unfoldable pub flag_of : Bytes → Option Bool
flag_of = lookup flags

-- ---- paths and names

-- a number, and where it was cut off at a dot what stands behind
abbrev pub index_or_more : (Bytes → Option (List ℕ)) → Option (Bytes × Bytes) → Bytes → Option (List ℕ)
index_or_more more None z = option_map (λ (k : ℕ). k ∷ []) (number_in 0 most_u32 z)
index_or_more more (Some p) z = option_and_then (λ (k : ℕ). option_map (λ (ks : List ℕ). k ∷ ks) (more p.1)) (number_in 0 most_u32 p.0)

-- numbers with dots between them, so many at most
unfoldable pub indexes_of : ℕ → Bytes → Option (List ℕ)
indexes_of zero z = None
indexes_of (suc n) z = index_or_more (λ y. indexes_of n y) (cut 46 z) z

-- behind the first dot, or without any
abbrev pub path_behind : Option Bytes → Bytes → Option (List ℕ)
path_behind (Some rest) w = indexes_of most_indexes rest
path_behind None w = if bytes_eq w (codes "m") then Some [] else None

unfoldable pub path_of : Bytes → Option (List ℕ)
path_of w = path_behind (literal (codes "m.") w) w

unfoldable pub name_of : Bytes → Option Name
name_of w = option_and_then (λ (p : List ℕ × Bytes). option_map (λ (k : ℕ). record { path = p.0; number = k }) (number_in 0 most_u32 p.1)) (field 35 path_of w)

-- ---- texts

abbrev pub as_text : Bytes → Result Bytes FromHexError → Option Bytes
as_text w (Ok text) = if bytes_eq w (encode_lower text) && is_utf8 text then Some text else None
as_text w (Err e) = None

abbrev pub text_behind : Option Bytes → Option Bytes
text_behind (Some w) = as_text w (decode_of w)
text_behind None = None

unfoldable pub text_of : Bytes → Option Bytes
text_of w = text_behind (literal (codes "x") w)

-- ---- how a task is made

unfoldable pub how_of : Bytes → Option How
how_of w =
    if bytes_eq w (codes "default") then Some how.Default
    else if bytes_eq w (codes "interactive") then Some how.Interactive
    else if bytes_eq w (codes "async") then Some how.Async
    else option_and_then (λ (rest : Bytes). option_map how.Chunk (number_in 0 most_u32 rest)) (literal (codes "chunk:") w)

-- ---- values

abbrev pub kinds : List (Bytes × Kind)
kinds =
    (codes "channel", kind.Channel) ∷ (codes "unbuffered", kind.Unbuffered) ∷ (codes "atomic", kind.Atomic) ∷ (codes "event", kind.Event)
    ∷ (codes "condition", kind.Condition) ∷ (codes "lock", kind.Lock) ∷ (codes "semaphore", kind.Semaphore) ∷ []

unfoldable pub kind_of : Bytes → Option Kind
kind_of = lookup kinds

-- the handle of a task or of an object
unfoldable pub handle_of : Bytes → Bytes → Option Value
handle_of w rest =
    if bytes_eq w (codes "task") then option_map value.Task (path_of rest)
    else option_and_then (λ (k : Kind). option_map (λ (name : Name). value.Object k name) (name_of rest)) (kind_of w)

-- with a colon, a handle
abbrev pub handle_or_int : Option (Bytes × Bytes) → Bytes → Option Value
handle_or_int (Some p) w = handle_of p.0 p.1
handle_or_int None w = option_map value.Int (int_of w)

abbrev pub flag_or_value : Option Bool → Bytes → Option Value
flag_or_value (Some b) w = Some (value.Flag b)
flag_or_value None w = if bytes_eq w (codes "nothing") then Some value.Nothing else handle_or_int (cut 58 w) w

unfoldable pub value_of : Bytes → Option Value
value_of w = flag_or_value (flag_of w) w

-- ---- faults

abbrev pub plain_faults : List (Bytes × Fault)
plain_faults =
    (codes "divide", fault.Divide) ∷ (codes "domain", fault.Domain) ∷ (codes "emptyrange", fault.EmptyRange) ∷ (codes "method", fault.Method) ∷ (codes "undefined", fault.Undefined)
    ∷ (codes "turnlimit", fault.TurnLimit) ∷ (codes "stacklimit", fault.StackLimit) ∷ (codes "forktoodeep", fault.ForkTooDeep) ∷ (codes "channelclosed", fault.ChannelClosed)
    ∷ (codes "notlocked", fault.NotLocked) ∷ (codes "notowner", fault.NotOwner) ∷ (codes "releasefree", fault.ReleaseFree) ∷ (codes "staticnested", fault.StaticNested) ∷ []

-- what the table has, in two steps
unfoldable pub later_fault_of : Bytes → Option Fault
later_fault_of w =
    if bytes_eq w (codes "forktoodeep") then Some fault.ForkTooDeep
    else if bytes_eq w (codes "channelclosed") then Some fault.ChannelClosed
    else if bytes_eq w (codes "notlocked") then Some fault.NotLocked
    else if bytes_eq w (codes "notowner") then Some fault.NotOwner
    else if bytes_eq w (codes "releasefree") then Some fault.ReleaseFree
    else if bytes_eq w (codes "staticnested") then Some fault.StaticNested
    else None

unfoldable pub plain_fault_of : Bytes → Option Fault
plain_fault_of w =
    if bytes_eq w (codes "divide") then Some fault.Divide
    else if bytes_eq w (codes "domain") then Some fault.Domain
    else if bytes_eq w (codes "emptyrange") then Some fault.EmptyRange
    else if bytes_eq w (codes "method") then Some fault.Method
    else if bytes_eq w (codes "undefined") then Some fault.Undefined
    else if bytes_eq w (codes "turnlimit") then Some fault.TurnLimit
    else if bytes_eq w (codes "stacklimit") then Some fault.StackLimit
    else later_fault_of w

-- with what follows a colon
unfoldable pub long_fault_of : Bytes → Bytes → Option Fault
long_fault_of w rest =
    if bytes_eq w (codes "taskfailed") then option_map fault.TaskFailed (path_of rest)
    else if bytes_eq w (codes "error") then option_map fault.Error (text_of rest)
    else None

abbrev pub at_colon : Option (Bytes × Bytes) → Option Fault
at_colon (Some p) = long_fault_of p.0 p.1
at_colon None = None

abbrev pub plain_or_long : Option Fault → Bytes → Option Fault
plain_or_long (Some f) w = Some f
plain_or_long None w = at_colon (cut 58 w)

unfoldable pub fault_of : Bytes → Option Fault
fault_of w = plain_or_long (plain_fault_of w) w

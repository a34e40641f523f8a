-- The texts of faults.
use Rattle.std.specs.Prelude.{ℕ, ◌+◌, ◌/◌, ◌%◌, nat_lt, if◌then◌else◌, List, [], ◌∷◌, ◌++◌, codes}
use Rattle.std.specs.Fmt.{decimal}
use Rattle.jt_base.specs.declared.operation.Fault.{Fault}
use Rattle.jt_base.specs.declared.operation.Fault.TheVariants as fault

-- behind an `m` each index with a dot before it, as `m.0.3`
abbrev pub indexes_text : List ℕ → List ℕ
indexes_text [] = []
indexes_text (k ∷ ks) = (codes "." ++ decimal k) ++ indexes_text ks

abbrev pub path_text : List ℕ → List ℕ
path_text path = codes "m" ++ indexes_text path

-- the digits are 0 to 9 and a to f
abbrev pub hex_digit : ℕ → ℕ
hex_digit n = if nat_lt n 10 then 48 + n else 87 + n

-- two digits for a byte
abbrev pub hex_byte : ℕ → List ℕ
hex_byte b = hex_digit (b / 16) ∷ hex_digit (b % 16) ∷ []

abbrev pub hex_bytes : List ℕ → List ℕ
hex_bytes [] = []
hex_bytes (b ∷ bs) = hex_byte b ++ hex_bytes bs

-- behind an `x` the digits of each byte, as `x6e6f`
abbrev pub hex_text : List ℕ → List ℕ
hex_text bytes = codes "x" ++ hex_bytes bytes

abbrev pub fault_text : Fault → List ℕ
fault_text fault.Divide = codes "divide"
fault_text fault.Domain = codes "domain"
fault_text fault.EmptyRange = codes "emptyrange"
fault_text fault.Method = codes "method"
fault_text fault.Undefined = codes "undefined"
fault_text fault.TurnLimit = codes "turnlimit"
fault_text fault.StackLimit = codes "stacklimit"
fault_text fault.ForkTooDeep = codes "forktoodeep"
fault_text fault.ChannelClosed = codes "channelclosed"
fault_text fault.NotLocked = codes "notlocked"
fault_text fault.NotOwner = codes "notowner"
fault_text fault.ReleaseFree = codes "releasefree"
fault_text (fault.TaskFailed path) = codes "taskfailed:" ++ path_text path
fault_text fault.StaticNested = codes "staticnested"
fault_text (fault.Error text) = codes "error:" ++ hex_text text

-- Operations as they stand in an entry's line: a word, and each argument behind a space.
use Rattle.std.specs.Prelude.{◌≡◌, ℕ, [], ◌∷◌, ◌++◌, codes, decimal}
use Rattle.std.specs.Fmt.{signed_decimal}
use Rattle.jt_base.specs.declared.operation.Op.{Op}
use Rattle.jt_base.specs.declared.operation.Op.TheVariants as op
use Rattle.jt_trace_text.specs.Lines.{Bytes}
use Rattle.jt_trace_text.specs.Words.{most_u64, IsDecimal, IsInt, flag_text, path_text, IsPath, name_text, IsNameWord, hex_text, IsHex, how_text, IsHow, value_text, IsValue, fault_text, IsFault}

-- a word and the space behind it
abbrev pub spaced : Bytes → Bytes
spaced w = w ++ 32 ∷ []

-- the greatest capacity of a channel
abbrev pub most_capacity : ℕ
most_capacity = 1048576

-- with the space behind it
abbrev pub operation_text : Op → Bytes
operation_text op.Begin = codes "begin "
operation_text (op.End v) = codes "end " ++ spaced (value_text v)
operation_text (op.Fail f) = codes "fail " ++ spaced (fault_text f)
operation_text (op.Spawn p h) = codes "spawn " ++ (spaced (path_text p) ++ spaced (how_text h))
operation_text (op.Fetch p) = codes "fetch " ++ spaced (path_text p)
operation_text (op.Wait p) = codes "wait " ++ spaced (path_text p)
operation_text op.Yield = codes "yield "
operation_text (op.Print t) = codes "print " ++ spaced (hex_text t)
operation_text (op.NewChannel n c) = codes "newchannel " ++ (spaced (name_text n) ++ spaced (decimal c))
operation_text (op.NewAtomic n z) = codes "newatomic " ++ (spaced (name_text n) ++ spaced (signed_decimal z))
operation_text (op.NewEvent n b) = codes "newevent " ++ (spaced (name_text n) ++ spaced (flag_text b))
operation_text (op.NewCondition n) = codes "newcondition " ++ spaced (name_text n)
operation_text (op.NewLock n) = codes "newlock " ++ spaced (name_text n)
operation_text (op.NewSemaphore n k) = codes "newsemaphore " ++ (spaced (name_text n) ++ spaced (decimal k))
operation_text (op.Put n z) = codes "put " ++ (spaced (name_text n) ++ spaced (signed_decimal z))
operation_text (op.Offer n z) = codes "offer " ++ (spaced (name_text n) ++ spaced (signed_decimal z))
operation_text (op.Landed n k) = codes "landed " ++ (spaced (name_text n) ++ spaced (decimal k))
operation_text (op.Take n) = codes "take " ++ spaced (name_text n)
operation_text (op.Next n) = codes "next " ++ spaced (name_text n)
operation_text (op.Close n) = codes "close " ++ spaced (name_text n)
operation_text (op.IsOpen n) = codes "isopen " ++ spaced (name_text n)
operation_text (op.IsReady n) = codes "isready " ++ spaced (name_text n)
operation_text (op.Notify n) = codes "notify " ++ spaced (name_text n)
operation_text (op.Reset n) = codes "reset " ++ spaced (name_text n)
operation_text (op.EWait n) = codes "ewait " ++ spaced (name_text n)
operation_text (op.Lock n) = codes "lock " ++ spaced (name_text n)
operation_text (op.Unlock n) = codes "unlock " ++ spaced (name_text n)
operation_text (op.CWait n) = codes "cwait " ++ spaced (name_text n)
operation_text (op.CBack n) = codes "cback " ++ spaced (name_text n)
operation_text (op.CNotify n b) = codes "cnotify " ++ (spaced (name_text n) ++ spaced (flag_text b))
operation_text (op.Acquire n) = codes "acquire " ++ spaced (name_text n)
operation_text (op.Release n) = codes "release " ++ spaced (name_text n)
operation_text (op.AGet n) = codes "aget " ++ spaced (name_text n)
operation_text (op.ASet n z) = codes "aset " ++ (spaced (name_text n) ++ spaced (signed_decimal z))
operation_text (op.AAdd n z) = codes "aadd " ++ (spaced (name_text n) ++ spaced (signed_decimal z))
operation_text (op.ASub n z) = codes "asub " ++ (spaced (name_text n) ++ spaced (signed_decimal z))
operation_text (op.AXchg n z) = codes "axchg " ++ (spaced (name_text n) ++ spaced (signed_decimal z))
operation_text (op.ACas n z y) = codes "acas " ++ (spaced (name_text n) ++ (spaced (signed_decimal z) ++ spaced (signed_decimal y)))

-- each argument has a word
abbrev pub FitsOperation : Op → Type 0
FitsOperation op.Begin = Unit {0}
FitsOperation (op.End v) = IsValue v (value_text v)
FitsOperation (op.Fail f) = IsFault f (fault_text f)
FitsOperation (op.Spawn p h) = IsPath p (path_text p) × IsHow h (how_text h)
FitsOperation (op.Fetch p) = IsPath p (path_text p)
FitsOperation (op.Wait p) = IsPath p (path_text p)
FitsOperation op.Yield = Unit {0}
FitsOperation (op.Print t) = IsHex t (hex_text t)
FitsOperation (op.NewChannel n c) = IsNameWord n (name_text n) × IsDecimal 0 most_capacity c (decimal c)
FitsOperation (op.NewAtomic n z) = IsNameWord n (name_text n) × IsInt z (signed_decimal z)
FitsOperation (op.NewEvent n b) = IsNameWord n (name_text n)
FitsOperation (op.NewCondition n) = IsNameWord n (name_text n)
FitsOperation (op.NewLock n) = IsNameWord n (name_text n)
FitsOperation (op.NewSemaphore n k) = IsNameWord n (name_text n) × IsDecimal 0 most_u64 k (decimal k)
FitsOperation (op.Put n z) = IsNameWord n (name_text n) × IsInt z (signed_decimal z)
FitsOperation (op.Offer n z) = IsNameWord n (name_text n) × IsInt z (signed_decimal z)
FitsOperation (op.Landed n k) = IsNameWord n (name_text n) × IsDecimal 0 most_u64 k (decimal k)
FitsOperation (op.Take n) = IsNameWord n (name_text n)
FitsOperation (op.Next n) = IsNameWord n (name_text n)
FitsOperation (op.Close n) = IsNameWord n (name_text n)
FitsOperation (op.IsOpen n) = IsNameWord n (name_text n)
FitsOperation (op.IsReady n) = IsNameWord n (name_text n)
FitsOperation (op.Notify n) = IsNameWord n (name_text n)
FitsOperation (op.Reset n) = IsNameWord n (name_text n)
FitsOperation (op.EWait n) = IsNameWord n (name_text n)
FitsOperation (op.Lock n) = IsNameWord n (name_text n)
FitsOperation (op.Unlock n) = IsNameWord n (name_text n)
FitsOperation (op.CWait n) = IsNameWord n (name_text n)
FitsOperation (op.CBack n) = IsNameWord n (name_text n)
FitsOperation (op.CNotify n b) = IsNameWord n (name_text n)
FitsOperation (op.Acquire n) = IsNameWord n (name_text n)
FitsOperation (op.Release n) = IsNameWord n (name_text n)
FitsOperation (op.AGet n) = IsNameWord n (name_text n)
FitsOperation (op.ASet n z) = IsNameWord n (name_text n) × IsInt z (signed_decimal z)
FitsOperation (op.AAdd n z) = IsNameWord n (name_text n) × IsInt z (signed_decimal z)
FitsOperation (op.ASub n z) = IsNameWord n (name_text n) × IsInt z (signed_decimal z)
FitsOperation (op.AXchg n z) = IsNameWord n (name_text n) × IsInt z (signed_decimal z)
FitsOperation (op.ACas n z y) = IsNameWord n (name_text n) × IsInt z (signed_decimal z) × IsInt y (signed_decimal y)

pub record IsOperation (o : Op) (l : Bytes) : Type 0 where
  pub fits : FitsOperation o
  pub is : l ≡ operation_text o

-- What a place on the heap holds.
use Rattle.std.specs.Prelude.{Option, Some, None, IsSome}
use Rattle.std.proofs.lemmas.Bool.{false≢true}

abbrev pub placed : {T : Type 0} → (value : Option T) → IsSome value → T
placed (Some value) full = value
placed None full = absurd (false≢true full)

-- What one call of a source or of a sink does: to its bytes, where it tells them, and to its count of faults.
-- Of std: `Consumes before after bytes` says that what was left began with these bytes and is now without them,
-- `Appends before after bytes` that these bytes were added, `Keeps before after` that nothing was moved, and
-- `IsAtEnd after` that nothing is left. Each claims nothing of bytes that aren't told.
use Rattle.std.specs.Prelude.{◌≡◌, ℕ, ◌+◌, ◌-◌, ◌^◌, ◌<◌, ◌≤◌, min, List, length, take, Option, Result, MatchResult}
use Rattle.std.specs.Io.KnownBytes.{Consumes, Appends, Keeps, IsAtEnd}

-- the greatest count of faults or of calls
abbrev pub most_count : ℕ
most_count = 2 ^ 64 - 1

-- a count that is raised by one, and stands still at the greatest
abbrev pub raised : ℕ → ℕ
raised count = min (count + 1) most_count

-- a count of faults rose: it is greater than before, or it is the greatest
abbrev pub Rose : ℕ → ℕ → Type 0
Rose before now = raised before ≤ now

-- A read of n bytes took them off the front of what was left into the front of the buffer, and n is 0 only where the
-- buffer or what was left is empty. A read that failed took nothing.
abbrev pub Reads : {E : Type 0} → Option (List ℕ) → Option (List ℕ) → Result ℕ E → List ℕ → Type 0
Reads before after result buffer =
    MatchResult result
    (λ n. Consumes before after (take n buffer) × (n ≡ 0 → 0 < length buffer → IsAtEnd after))
    (λ _. Keeps before after)

-- A write of n bytes added the first n, and at least one where there was any. A write that failed added nothing.
abbrev pub Writes : {E : Type 0} → Option (List ℕ) → Option (List ℕ) → Result ℕ E → List ℕ → Type 0
Writes before after result bytes =
    MatchResult result
    (λ n. Appends before after (take n bytes) × (0 < length bytes → 0 < n))
    (λ _. Keeps before after)

-- a source was read to its end, and gave these bytes
abbrev pub ReadsToEnd : Option (List ℕ) → Option (List ℕ) → List ℕ → Type 0
ReadsToEnd before after bytes = Consumes before after bytes × IsAtEnd after

-- a source gave so many bytes
abbrev pub Gives : Option (List ℕ) → Option (List ℕ) → ℕ → Type 0
Gives before after n = (bytes : List ℕ) × Consumes before after bytes × (length bytes ≡ n)

-- a prefix of the bytes was added to what was written
abbrev pub WritesPrefix : Option (List ℕ) → Option (List ℕ) → List ℕ → Type 0
WritesPrefix before after bytes = (n : ℕ) × Appends before after (take n bytes)

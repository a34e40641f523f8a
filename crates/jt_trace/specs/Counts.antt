-- The number of entries as a number of 64 bits.
use Rattle.std.specs.Prelude.{ℕ, ◌^◌, nat_lt, if◌then◌else◌, Option, option_map, codes}
use Rattle.jt_trace_text.specs.Lines.{Bytes}
use Rattle.jt_trace_text.specs.Words.{most_u64}
use Rattle.jt_trace_text.specs.Readers.{field, behind}
use Rattle.jt_trace_text.specs.TextReaders.{digits_of}

-- the greatest one in place of a greater one
abbrev pub capped : ℕ → ℕ
capped n = if nat_lt n (2 ^ 64) then n else most_u64

abbrev pub capped_digits : Bytes → Option ℕ
capped_digits w = option_map capped (digits_of w)

-- the line of the number
unfoldable pub capped_count : Bytes → Option (ℕ × Bytes)
capped_count = behind (codes "entries ") (field 10 capped_digits)

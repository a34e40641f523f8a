-- The text so far, and the digits of the bytes to come.
use Rattle.std.proofs.Common.{◌≡◌, ◌++◌, drop}
use Rattle.std.specs.Prelude.{string_bytes}
use Rattle.jt_tool.specs.Faults.{hex_bytes}
use Rattle.jt_tool.proofs.fault.push_hex.Given as goal

abbrev pub invariant-loop-byte : goal.invariant-loop-byte
invariant-loop-byte l = string_bytes l.text ++ hex_bytes (drop l.byte-index l.bytes) ≡ string_bytes l.initial.text ++ hex_bytes l.bytes

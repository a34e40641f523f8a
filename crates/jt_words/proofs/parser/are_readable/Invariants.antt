use Rattle.std.proofs.Common.{◌≡◌, drop, map, string_bytes}
use Rattle.jt_words.specs.Parser as spec
use Rattle.jt_words.proofs.parser.are_readable.Given as goal

abbrev pub invariant-loop-word : goal.invariant-loop-word
invariant-loop-word l = spec.are_readable (map string_bytes (drop l.word-index l.words)) ≡ spec.are_readable (map string_bytes l.words)

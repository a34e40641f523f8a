-- The indexes so far, and those to come.
use Rattle.std.proofs.Common.{◌≡◌, length}
use denote.Text.{Utf8}
use denote.Shadow.{shadow}
use Rattle.jt_trace_text.specs.WordReaders.{indexes_of}
use Rattle.jt_trace.proofs.Paths.{whole_path}
use Rattle.jt_trace.proofs.read_words.indexes.Given as goal

abbrev pub invariant-loop-word : goal.invariant-loop-word
invariant-loop-word l = shadow (Utf8 l.rest) × (whole_path l.path l.rest ≡ indexes_of 48 l.text)

abbrev pub decreases-loop-word : goal.decreases-loop-word
decreases-loop-word l = length l.rest

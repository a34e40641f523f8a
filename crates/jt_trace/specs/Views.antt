-- What contracts see of a trace and of why a text is none.
use Rattle.jt_base.specs.declared.run.Limits.{Limits}
use Rattle.jt_base.specs.declared.run.Seeds.{Seeds}
use Rattle.jt_base.specs.declared.run.Sizes.{Sizes}
use Rattle.jt_trace.specs.declared.trace.Trace.{Trace}
use Rattle.jt_trace.specs.declared.unread.TraceError.{TraceError}
use Rattle.jt_trace.specs.declared.unread.TraceError.TheVariants as error
use Rattle.jt_trace_text.specs.Lines.{Bytes, IsFirstBad}
use Rattle.jt_trace_text.specs.Texts.{TraceValue, IsText}
use Rattle.jt_trace_text.specs.TextReaders.{Header}

-- field by field, the entries as their list
abbrev pub view : Trace → TraceValue
view t = record { sizes = t.sizes; seeds = t.seeds; limits = t.limits; script = t.script; entries = t.entries.items }

-- the line that is told is the first bad one
abbrev pub IsBad : Bytes → TraceError → Type 0
IsBad z (error.BadLine n) = IsFirstBad IsText n z
IsBad z error.OutOfMemory = Unit {0}

abbrev pub header_of : Sizes → Seeds → Limits → Header
header_of sizes seeds limits = ((sizes.default, sizes.interactive), (seeds.words, (limits.turns, limits.events)))

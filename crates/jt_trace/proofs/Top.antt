-- The clauses of reading, from what the reader on lists gives.
use Rattle.std.proofs.Common.{◌≡◌, ℕ, Result, Ok, Err, sym, subst}
use Rattle.std.specs.Prelude.{IfOk, IfErr, IsUtf8}
use Rattle.std.specs.Result.{IsErrAnd}
use Rattle.jt_trace_text.specs.Lines.{Bytes}
use Rattle.jt_trace_text.specs.Texts.{TraceValue, IsTraceText}
use Rattle.jt_trace_text.specs.TextReaders.{read_text}
use Rattle.jt_trace_text.proofs.Found.{found, again, told_line}
use Rattle.jt_trace.specs.declared.trace.Trace.{Trace}
use Rattle.jt_trace.specs.declared.unread.TraceError.{TraceError}
use Rattle.jt_trace.specs.declared.unread.TraceError.TheVariants as error
use Rattle.jt_trace.specs.Reading.{Tells, Answers}
use Rattle.jt_trace.specs.Views.{view, IsBad}

pub is_found : (z : Bytes) (r : Result Trace TraceError) → Answers view r (read_text z) → IfOk r (λ t. IsTraceText (view t) z)
is_found z (Ok t) e = found z (view t) e
is_found z (Err x) e = tt

pub is_only : (z : Bytes) (r : Result Trace TraceError) → Answers view r (read_text z) → (t : TraceValue) → IsTraceText t z → Answers view r (Ok t)
is_only z r e t f = subst (λ (o : Result TraceValue ℕ). Answers view r o) (again t z f) e

pub is_bad : (z : Bytes) (r : Result Trace TraceError) → IsUtf8 z → Answers view r (read_text z) → IfErr r (IsBad z)
is_bad z (Ok t) u e = tt
is_bad z (Err (error.BadLine n)) u e = told_line z n u e
is_bad z (Err error.OutOfMemory) u e = tt

-- an error that is handed on tells the same
pub handed_on : (r : Result Trace TraceError) (e : TraceError) (o : Result TraceValue ℕ) → IsErrAnd r (λ x. x ≡ e) → Tells e o → Answers view r o
handed_on (Ok t) e o is told = absurd is
handed_on (Err x) e o is told = subst (λ (y : TraceError). Tells y o) (sym is) told

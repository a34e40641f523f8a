use Rattle.std.proofs.Common.{ℕ, List, Ok, sym, ap, ◌∙◌, arith}
use Rattle.jt_trace_text.specs.TextReaders.{trace_of, read_count}
use Rattle.jt_trace.specs.Views.{header_of}
use Rattle.jt_trace.proofs.Counts.{count_shorter, count_found, count_told, count_bad}
use Rattle.jt_trace.proofs.Top.{handed_on}
use Rattle.jt_trace.proofs.reading.from_count.Goals as goal

pub returns-in_default : goal.returns-in_default
returns-in_default c = count_bad (header_of c.args.sizes c.args.seeds c.args.limits) c.args.script.now c.args.line c.args.text.now (sym c.in_default.ensures)

pub overflow_add-line : goal.overflow_add-line
overflow_add-line c =
    let fewer = count_shorter c.args.text.now c.in-Some.rest.now c.in-Some.count (sym c.in-Some.ensures) in
    let room = c.requires in
    omega (arith, fewer, room)

pub entries-requires : goal.entries-requires
entries-requires c =
    let fewer = count_shorter c.args.text.now c.in-Some.rest.now c.in-Some.count (sym c.in-Some.ensures) in
    let room = c.requires in
    omega (arith, fewer, room)

pub returns-in_err-entries : goal.returns-in_err-entries
returns-in_err-entries c =
    let h = header_of c.args.sizes c.args.seeds c.args.limits in
    let e = c.in_err-entries.field-0.0 in
    let told = count_told h c.args.script.now c.args.line c.in-Some.count c.args.text.now c.in-Some.rest.now e (sym c.in-Some.ensures) (let room = c.requires in omega (arith, room)) c.in_err-entries.ensures in
    handed_on c.from_residual.result e (read_count h c.args.script.now c.args.line c.args.text.now) c.from_residual.ensures.1 told

pub returns : goal.returns
returns c =
    let h = header_of c.args.sizes c.args.seeds c.args.limits in
    let es = c.in_ok-entries.entries.items in
    let found = count_found h c.args.script.now c.args.line c.in-Some.count c.args.text.now c.in-Some.rest.now es (sym c.in-Some.ensures) (let room = c.requires in omega (arith, room)) c.in_ok-entries.ensures in
    found ∙ ap (λ (s : List ℕ). Ok (trace_of h s es)) (sym c.in-Ok.ensures)

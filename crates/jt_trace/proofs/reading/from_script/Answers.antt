use Rattle.std.proofs.Common.{sym, subst, arith}
use Rattle.jt_trace.specs.Reading.{Answers}
use Rattle.jt_trace.specs.Views.{view, header_of}
use Rattle.jt_trace.proofs.Scripts.{script_room, script_read}
use Rattle.jt_trace.proofs.reading.from_script.Goals as goal

pub from_count-requires : goal.from_count-requires
from_count-requires c =
    let z = c.args.text.now in
    let room = script_room c.args.size z c.in-Some.script.now c.in-Some.rest.now (sym c.in-Some.ensures) in
    let lines = c.newlines_within-newlines.ensures.value in
    let small = c.newlines_within-newlines.ensures.small in
    omega (arith, room, lines, small)

pub returns-in-Some : goal.returns-in-Some
returns-in-Some c =
    let h = header_of c.args.sizes c.args.seeds c.args.limits in
    let read = script_read h c.args.size c.newlines_within-newlines.result c.args.text.now c.in-Some.script.now c.in-Some.rest.now c.newlines_within-newlines.ensures.value (sym c.in-Some.ensures) in
    subst (λ r. Answers view c.from_count.result r) (sym read) c.from_count.ensures

-- The bytes of this write go on where the bytes so far end.
use Rattle.std.proofs.Common.{◌≤◌, length, take, drop, arith, take-add, length-drop}
use Rattle.std.proofs.lemmas.List.{take_rest}
use Rattle.std.proofs.KnownBytes.{Appends-trans}
use Rattle.std.specs.Io.KnownBytes.{Appends}
use Rattle.jt_tool.proofs.writing.write_all.Goals as goal

pub loop-done-preserved : goal.loop-done-preserved
loop-done-preserved g c =
    let text = c.args.bytes.now in
    let done = c.loop-done.done in
    let n = c.in_ok-done.field-0 in
    let more : Appends (g.O.Sink.written c.loop-done.sink) (g.O.Sink.written c.write.new.self) (take n (drop done text)) = rw take_rest at c.in_ok-done.ensures.bytes.0 in
    let fits : n ≤ length (drop done text) = rw take_rest at c.in_ok-done.ensures.within in
    record {
      within = omega (arith, length-drop done text);
      added = rw (take-add done n text) (Appends-trans _ _ _ _ _ c.loop-done.invariant.added more);
      faults = omega arith;
    }

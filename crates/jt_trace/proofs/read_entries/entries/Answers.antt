use Rattle.std.proofs.Common.{◌≡◌, ◌++◌, ◌∷◌, [], ◌+◌, ◌∙◌, Some, true, not, is_ok, ap, rules, arith, suc}
use Rattle.jt_trace_text.specs.EntryReaders.{entry_at}
use Rattle.jt_trace_text.specs.TextReaders.{read_entries}
use Rattle.jt_trace.proofs.Loop.{goes_on, bad_here, shorter}
use Rattle.jt_trace.proofs.read_entries.entries.Goals as goal

pub returns-in-Err-Malformed : goal.returns-in-Err-Malformed
returns-in-Err-Malformed c =
    let none = rw c.in-Err-Malformed.field-0-is at c.in-Err-Malformed.ensures in
    bad_here c.loop.entries.items c.args.most c.args.count c.loop.counter c.loop.at c.loop.rest.now (read_entries c.args.most c.args.count c.args.line c.args.text.now) c.loop-test.true none c.loop.invariant.1

pub overflow_add-at : goal.overflow_add-at
overflow_add-at c =
    let read : entry_at c.args.most c.loop.rest.now ≡ Some (c.in-Ok.entry, c.in-Ok.after.now) = c.in-Ok.ensures in
    let fewer = shorter c.args.most c.loop.rest.now c.in-Ok.entry c.in-Ok.after.now read in
    let bound = c.loop.invariant.2 in
    omega (arith, fewer, bound)

pub loop-preserved : goal.loop-preserved
loop-preserved c =
    let read : entry_at c.args.most c.loop.rest.now ≡ Some (c.in-Ok.entry, c.in-Ok.after.now) = c.in-Ok.ensures in
    let pushed : is_ok c.push.result ≡ true = c.is_err.ensures.negation ∙ ap not c.if-is_err.false in
    let items : c.push.new.self.items ≡ c.loop.entries.items ++ c.in-Ok.entry ∷ [] = rw pushed at c.push.ensures.items in
    let next : c.loop.at + 1 ≡ suc c.loop.at = omega arith in
    let fewer = shorter c.args.most c.loop.rest.now c.in-Ok.entry c.in-Ok.after.now read in
    let bound = c.loop.invariant.2 in (
      search rules,
      rw items (goes_on c.loop.entries.items c.args.most c.args.count c.loop.counter c.loop.at (c.loop.at + 1) c.loop.rest.now c.in-Ok.entry c.in-Ok.after.now (read_entries c.args.most c.args.count c.args.line c.args.text.now) c.loop-test.true next read c.loop.invariant.1),
      omega (arith, fewer, bound),
    )

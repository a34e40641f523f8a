use Rattle.std.proofs.Common.{◌≡◌, Some, None, rules, sym, ◌∙◌}
use Rattle.jt_trace_text.specs.Readers.{cut}
use Rattle.jt_trace.specs.Paths.{grown}
use Rattle.jt_trace.proofs.Paths.{grown_some, grown_none, whole_last, shorter}
use Rattle.jt_trace.proofs.read_words.indexes.Goals as goal

pub returns-in_err-path : goal.returns-in_err-path
returns-in_err-path c =
    let is : cut 46 c.loop-word.rest.now ≡ Some (c.in-Some.word.now, c.in-Some.after.now) = sym c.in-Some.ensures in
    let none : grown c.loop-word.path c.in-Some.word.now ≡ None = sym c.child.ensures ∙ c.in_err-path.was in
    c.from_residual.ensures ∙ grown_none c.loop-word.path c.loop-word.rest.now c.in-Some.word.now c.in-Some.after.now is none ∙ c.loop-word.invariant.1

pub loop-word-smaller : goal.loop-word-smaller
loop-word-smaller c =
    let is : cut 46 c.loop-word.rest.now ≡ Some (c.in-Some.word.now, c.in-Some.after.now) = sym c.in-Some.ensures in
    shorter c.loop-word.rest.now c.in-Some.word.now c.in-Some.after.now is

pub loop-word-preserved : goal.loop-word-preserved
loop-word-preserved c =
    let is : cut 46 c.loop-word.rest.now ≡ Some (c.in-Some.word.now, c.in-Some.after.now) = sym c.in-Some.ensures in
    let some : grown c.loop-word.path c.in-Some.word.now ≡ Some c.in_ok-path.path = sym c.child.ensures ∙ c.in_ok-path.was in
    (search rules, grown_some c.loop-word.path c.in_ok-path.path c.loop-word.rest.now c.in-Some.word.now c.in-Some.after.now is some ∙ c.loop-word.invariant.1)

pub returns : goal.returns
returns c =
    let is : cut 46 c.loop-word.rest.now ≡ None = sym c.in_default.ensures in
    c.child-2.ensures ∙ whole_last c.loop-word.path c.loop-word.rest.now is ∙ c.loop-word.invariant.1

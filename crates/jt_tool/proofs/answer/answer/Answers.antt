-- What stopped a command, and a run that was written, are its answers.
use Rattle.jt_tool.proofs.Answered.{stopped, ran}
use Rattle.jt_tool.proofs.answer.answer.Goals as goal

pub returns-in-Ok-clause-answers : goal.returns-in-Ok-clause-answers
returns-in-Ok-clause-answers g c =
    let run = c.in-Ok.ran in
    rw c.written.ensures.history (
    ran g.S.Source.left g.S.Source.faults g.O.Sink.written g.O.Sink.faults c.args.asked c.args.source.now c.run_asked.new.source c.args.out.now c.written.new.out
    run.history.items run.end run.text c.written.result.report.status c.in-Ok.ensures.run c.written.ensures.status)

pub returns-in-Err-clause-answers : goal.returns-in-Err-clause-answers
returns-in-Err-clause-answers g c =
    rw c.without_run.ensures.status (
    rw c.without_run.ensures.history (
    stopped g.S.Source.left g.S.Source.faults g.O.Sink.written g.O.Sink.faults c.args.asked c.args.source.now c.run_asked.new.source c.args.out.now c.in-Err.stop c.in-Err.ensures.stopped))

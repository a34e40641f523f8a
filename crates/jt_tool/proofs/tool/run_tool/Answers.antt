-- What is answered to the command that the words ask for is answered to the words.
use Rattle.std.specs.Prelude.{map, string_bytes}
use Rattle.jt_tool.proofs.Answered.{answered}
use Rattle.jt_tool.specs.Asked.{Asks}
use Rattle.jt_tool.proofs.tool.run_tool.Goals as goal

pub returns-clause-answers : goal.returns-clause-answers
returns-clause-answers g c =
    answered g.S.Source.left g.S.Source.faults g.O.Sink.written g.O.Sink.faults (Asks (map string_bytes c.args.words.now)) c.command_asked-asked.result c.args.source.now c.answer_and_note.new.source c.args.out.now c.answer_and_note.new.out
    c.answer_and_note.result.status c.answer_and_note.result.history.items c.command_asked-asked.ensures.asked c.answer_and_note.ensures.answers

use Rattle.jt_objects.proofs.Answering.{printer_refuses}
use Rattle.jt_objects.proofs.shared.print.Goals as goal

pub returns-in_default : goal.returns-in_default
returns-in_default c = λ task. printer_refuses task c.args.op.now c.in_default.not-Print

use Rattle.jt_trace.proofs.Cuts.{cut_is}
use Rattle.jt_trace.proofs.read_words.cut.Goals as goal

pub returns : goal.returns
returns c = cut_is c.args.ending c.args.text.now c.split_once.result c.split_once.ensures.cases c.requires

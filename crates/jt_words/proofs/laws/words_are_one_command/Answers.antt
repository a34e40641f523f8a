use Rattle.jt_words.proofs.Named.{one_command}
use Rattle.jt_words.proofs.laws.words_are_one_command.Goals as goal

pub returns : goal.returns
returns c = one_command

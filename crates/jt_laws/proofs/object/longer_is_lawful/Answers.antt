use Rattle.jt_laws.proofs.Lawful.{lawful_push}
use Rattle.jt_laws.proofs.object.longer_is_lawful.Goals as goal

pub returns : goal.returns
returns c = lawful_push

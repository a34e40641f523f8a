use Rattle.jt_sleep_core.proofs.Served.{served-own, own-served}
use Rattle.jt_sleep_core.proofs.laws.own_queues_serve.Goals as goal

pub returns : goal.returns
returns c = λ sizes queue worker there known. ((λ served. (own-served sizes queue worker there served).1), served-own sizes queue worker known)

-- The scopes that the pass found.
use Rattle.std.proofs.Common.{◌∙◌, ap}
use Rattle.jt_settling.specs.declared.settling.Settling.{Settling}
use Rattle.jt_settling.proofs.settling.Settling.finish.Goals as goal

pub returns : goal.returns
returns c = c.replace.ensures.value ∙ ap (λ (z : Settling). z.scopes) c.in_ok-walk_script.ensures

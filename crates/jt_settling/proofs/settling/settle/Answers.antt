-- The pass finds the scopes of the script.
use Rattle.std.proofs.Common.{◌≡◌, List, subst}
use Rattle.std.specs.Prelude.{IfOk}
use Rattle.jt_outline.specs.View.{outline_view}
use Rattle.jt_scopes.specs.declared.scope.Scope.{Scope}
use Rattle.jt_settling.proofs.Settled.{script_found}
use Rattle.jt_settling.proofs.settling.settle.Goals as goal

pub returns : goal.returns
returns c =
    subst (λ (z : List Scope). IfOk c.finish-scopes.result (λ scopes. scopes ≡ z))
    (script_found c.new-settling.result (outline_view c.args.outline.now) c.new-settling.ensures.holders c.new-settling.ensures.counts c.new-settling.ensures.taken c.new-settling.ensures.scopes)
    c.finish-scopes.ensures

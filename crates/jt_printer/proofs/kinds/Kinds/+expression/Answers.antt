use Rattle.std.proofs.Common.{ap}
use Rattle.jt_syntax.specs.View.{stmt_views}
use Rattle.jt_printer.proofs.Arms.{on_ok, else_written}
use Rattle.jt_printer.proofs.kinds.Kinds.+expression.Goals as goal

pub branches_else-returns : goal.branches_else-returns
branches_else-returns t c =
    let last = ap stmt_views c.as_slice.ensures in
    on_ok _ (else_written _ _ _ _ _ _ _ _ _ _ last c.in_ok-first_arms.ensures c.in_ok-sign.ensures c.in_ok-statements.ensures) c.sign-2.ensures

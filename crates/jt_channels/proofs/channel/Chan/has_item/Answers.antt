-- No item is left of a channel of which the offers were withdrawn.
use Rattle.std.proofs.Common.{length, not, sym, ap}
use Rattle.std.specs.Prelude.{nat_eq}
use Rattle.jt_channels.proofs.channel.Chan.has_item.Goals as goal

pub returns-then-is_withdrawn : goal.returns-then-is_withdrawn
returns-then-is_withdrawn c =
    ap (λ items. not (nat_eq (length items) 0)) (sym (c.is_withdrawn.ensures.none c.if-is_withdrawn.true))

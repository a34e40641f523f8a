-- The number stands under the name's key.
use Rattle.std.proofs.Common.{◌∙◌, ap}
use Rattle.jt_settling.specs.Counting.{with_number}
use Rattle.jt_settling.proofs.Numbers.{number_put}
use Rattle.jt_settling.proofs.counts.Counts.set.Goals as goal

pub returns : goal.returns
returns c =
    number_put c.self.inside.numbers.entries c.insert.new.self.entries c.in_ok-key.key c.args.name.now c.args.number (c.in_ok-key.ensures.items ∙ c.as_slice.ensures) c.in_ok-insert.ensures.entries
    ∙ ap (λ z. with_number z c.args.name.now c.args.number) c.self.view_is

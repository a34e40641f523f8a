use Rattle.std.proofs.Common.{true, sym, ap, ◌∙◌, subst}
use Rattle.jt_base.specs.declared.entry.Ask.TheVariants.{Done}
use Rattle.jt_base.specs.declared.operation.Op.TheVariants as op
use Rattle.jt_base.specs.declared.operation.Reply.TheVariants as reply
use Rattle.jt_laws.specs.Channels.{Channel, channel_left_by}
use Rattle.jt_laws.specs.Objects.{Asked, WithRoom}
use Rattle.jt_channels.specs.Steps.{when_closed}
use Rattle.jt_channels.proofs.Left.{made}
use Rattle.jt_channels.proofs.LeftIn.{closed_left}
use Rattle.jt_channels.proofs.Waiting.{closes}
use Rattle.jt_channels.proofs.channel.Chan.close.Goals as goal

pub returns-clause-law : goal.returns-clause-law
returns-clause-law c = λ task name.
    let after = ap (λ (w : WithRoom Channel). when_closed w.state) (sym c.self.view_is) ∙ ap (λ items. made c.self.inside.capacity items c.self.inside.taken true) (closed_left c.self.inside.closed c.self.inside.capacity c.self.inside.items.items) in
    subst (λ (t : Channel). Asked Channel channel_left_by task (op.Close name) c.args.self.now.state (Done reply.Ok) t) after (closes c.args.self.now.state task name)

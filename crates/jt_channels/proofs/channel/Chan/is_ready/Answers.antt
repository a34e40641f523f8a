use Rattle.std.proofs.Common.{sym, ap, subst}
use Rattle.jt_base.specs.declared.entry.Ask.TheVariants.{Done}
use Rattle.jt_base.specs.declared.operation.Op.TheVariants as op
use Rattle.jt_base.specs.declared.operation.Reply.TheVariants as reply
use Rattle.jt_laws.specs.Channels.{Channel, channel_left_by}
use Rattle.jt_laws.specs.Objects.{Asked}
use Rattle.jt_channels.proofs.Waiting.{tells_ready}
use Rattle.jt_channels.proofs.channel.Chan.is_ready.Goals as goal

pub returns : goal.returns
returns c = record {
  law = λ task name.
      let s = c.args.self.now.state in
      subst (λ a. Asked Channel channel_left_by task (op.IsReady name) s a s) (ap (λ b. Done (reply.Flag b)) (sym c.has_item.ensures)) (tells_ready s task name);
}

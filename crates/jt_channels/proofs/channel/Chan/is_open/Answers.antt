use Rattle.std.proofs.Common.{not, sym, ap, subst}
use Rattle.jt_base.specs.declared.entry.Ask.TheVariants.{Done}
use Rattle.jt_base.specs.declared.operation.Op.TheVariants as op
use Rattle.jt_base.specs.declared.operation.Reply.TheVariants as reply
use Rattle.jt_laws.specs.Channels.{Channel, channel_left_by}
use Rattle.jt_laws.specs.Objects.{Asked, WithRoom}
use Rattle.jt_channels.proofs.Waiting.{tells_open}
use Rattle.jt_channels.proofs.channel.Chan.is_open.Goals as goal

pub returns : goal.returns
returns c = record {
  law = λ task name.
      let s = c.args.self.now.state in
      subst (λ a. Asked Channel channel_left_by task (op.IsOpen name) s a s) (ap (λ (w : WithRoom Channel). Done (reply.Flag (not w.state.closed))) (sym c.self.view_is)) (tells_open s task name);
}

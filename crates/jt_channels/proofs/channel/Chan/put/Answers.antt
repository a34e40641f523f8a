use Rattle.std.proofs.Common.{◌++◌, ◌<◌, ◌≤◌, [], ◌∷◌, length, sym, ap, ◌∙◌, subst, arith, w64}
use Rattle.std.proofs.lemmas.Int.{to_z-of_z}
use Rattle.jt_base.specs.declared.entry.Ask.TheVariants.{Done}
use Rattle.jt_base.specs.declared.operation.Op.TheVariants as op
use Rattle.jt_base.specs.declared.operation.Reply.TheVariants as reply
use Rattle.jt_laws.specs.Channels.{Channel, channel_left_by}
use Rattle.jt_laws.specs.Objects.{Asked, WithRoom}
use Rattle.jt_channels.specs.Steps.{with_item}
use Rattle.jt_channels.proofs.Left.{made}
use Rattle.jt_channels.proofs.LeftIn.{open_left, left_with}
use Rattle.jt_channels.proofs.Waiting.{put_closed, put_ok, put_waits}
use Rattle.jt_channels.proofs.channel.Chan.put.Goals as goal

pub returns-then-self-clause-law : goal.returns-then-self-clause-law
returns-then-self-clause-law c = λ task name.
    put_closed c.args.self.now.state c.args.v task name c.requires.buffered (ap (λ (w : WithRoom Channel). w.state.closed) (sym c.self.view_is) ∙ c.if-self.true)

pub returns-then-len-self-clause-law : goal.returns-then-len-self-clause-law
returns-then-len-self-clause-law c = λ task name.
    let left = ap length (open_left c.self.inside.closed c.self.inside.capacity c.self.inside.items.items c.if-self.false) in
    put_waits c.args.self.now.state c.args.v task name c.requires.buffered (ap (λ (w : WithRoom Channel). w.state.closed) (sym c.self.view_is) ∙ c.if-self.false) (subst (λ (w : WithRoom Channel). w.state.capacity ≤ length w.state.items) c.self.view_is (omega (arith, left, c.self.inside.items.ok.0)))

pub returns-clause-law : goal.returns-clause-law
returns-clause-law c = λ task name.
    let s = c.args.self.now.state in
    let v = to_z-of_z w64 c.args.v c.ranges.v in
    let after = ap (λ (w : WithRoom Channel). with_item w.state c.args.v) (sym c.self.view_is) ∙ ap (λ items. made c.self.inside.capacity items c.self.inside.taken c.self.inside.closed) (left_with c.self.inside.closed c.self.inside.capacity c.self.inside.items.items c.push_back_reserved.new.self.items c.args.v c.if-self.false (c.push_back_reserved.ensures.items ∙ ap (λ z. c.self.inside.items.items ++ z ∷ []) v)) in
    let left = ap length (open_left c.self.inside.closed c.self.inside.capacity c.self.inside.items.items c.if-self.false) in
    subst (λ (t : Channel). Asked Channel channel_left_by task (op.Put name c.args.v) s (Done reply.Ok) t) after (put_ok s c.args.v task name c.requires.buffered (ap (λ (w : WithRoom Channel). w.state.closed) (sym c.self.view_is) ∙ c.if-self.false) (subst (λ (w : WithRoom Channel). length w.state.items < w.state.capacity) c.self.view_is (omega (arith, left, c.self.inside.items.ok.0))))

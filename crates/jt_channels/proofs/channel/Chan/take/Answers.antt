use Rattle.std.proofs.Common.{sym, ap, ◌∙◌, subst, rules, w64}
use Rattle.std.proofs.lemmas.Int.{to_z-of_z}
use mir.Val.{SFits, to_z, of_z}
use Rattle.jt_base.specs.declared.entry.Ask.TheVariants.{Done, NotYet}
use Rattle.jt_base.specs.declared.operation.Op.TheVariants as op
use Rattle.jt_base.specs.declared.operation.Reply.TheVariants as reply
use Rattle.jt_laws.specs.Channels.{Channel, channel_left_by}
use Rattle.jt_laws.specs.Objects.{Asked, WithRoom}
use Rattle.jt_channels.specs.Steps.{without_item}
use Rattle.jt_channels.proofs.Waiting.{take_item, take_closed, take_waits}
use Rattle.jt_channels.proofs.channel.Chan.take.Goals as goal

pub returns-in-Some-clause-law : goal.returns-in-Some-clause-law
returns-in-Some-clause-law c = λ task name.
    let s = c.args.self.now.state in
    let v = c.in-Some.item in
    let fits : SFits w64 v = search rules in
    subst (λ (t : Channel). Asked Channel channel_left_by task (op.Take name) s (Done (reply.Int (to_z w64 (of_z w64 v)))) t) (sym c.in-Some.ensures.rest)
    (subst (λ n. Asked Channel channel_left_by task (op.Take name) s (Done (reply.Int n)) (without_item s)) (sym (to_z-of_z w64 v fits))
    (take_item s task name v c.in-Some.ensures.item))

pub returns-then-self-clause-law : goal.returns-then-self-clause-law
returns-then-self-clause-law c = λ task name.
    let s = c.args.self.now.state in
    let closed = ap (λ (w : WithRoom Channel). w.state.closed) (sym (c.self.view_is ∙ c.in_default.ensures.same)) ∙ c.if-self.true in
    subst (λ (t : Channel). Asked Channel channel_left_by task (op.Take name) s (Done reply.Closed) t) (ap (λ (w : WithRoom Channel). w.state) (sym c.in_default.ensures.same)) (take_closed s task name c.in_default.ensures.none closed)

pub returns-clause-law : goal.returns-clause-law
returns-clause-law c = λ task name.
    let s = c.args.self.now.state in
    let closed = ap (λ (w : WithRoom Channel). w.state.closed) (sym (c.self.view_is ∙ c.in_default.ensures.same)) ∙ c.if-self.false in
    subst (λ (t : Channel). Asked Channel channel_left_by task (op.Take name) s NotYet t) (ap (λ (w : WithRoom Channel). w.state) (sym c.in_default.ensures.same)) (take_waits s task name c.in_default.ensures.none closed)

use Rattle.std.proofs.Common.{◌≡◌, ◌++◌, ◌+◌, ◌≤◌, [], ◌∷◌, length, sym, ap, ◌∙◌, subst, arith, w64}
use Rattle.std.specs.Prelude.{pos}
use Rattle.std.proofs.lemmas.Int.{to_z-of_z, ints}
use mir.Val.{to_z}
use Rattle.jt_base.specs.declared.entry.Ask.TheVariants.{Done}
use Rattle.jt_base.specs.declared.operation.Op.TheVariants as op
use Rattle.jt_base.specs.declared.operation.Reply.TheVariants as reply
use Rattle.jt_laws.specs.Channels.{Channel, channel_left_by}
use Rattle.jt_laws.specs.Objects.{Asked, WithRoom}
use Rattle.jt_channels.specs.Steps.{with_item}
use Rattle.jt_channels.proofs.Left.{made}
use Rattle.jt_channels.proofs.LeftIn.{open_left, left_with}
use Rattle.jt_channels.proofs.Waiting.{offer_closed, offer_numbered}
use Rattle.jt_channels.proofs.channel.Chan.offer.Goals as goal

pub returns-then-self-clause-law : goal.returns-then-self-clause-law
returns-then-self-clause-law c = λ task name.
    offer_closed c.args.self.now.state task name c.requires.unbuffered c.args.v (ap (λ (w : WithRoom Channel). w.state.closed) (sym c.self.view_is) ∙ c.if-self.true)

pub returns-clause-law : goal.returns-clause-law
returns-clause-law c = λ task name.
    let s = c.args.self.now.state in
    let v = to_z-of_z w64 c.args.v c.ranges.v in
    let after = ap (λ (w : WithRoom Channel). with_item w.state c.args.v) (sym c.self.view_is) ∙ ap (λ items. made c.self.inside.capacity items c.self.inside.taken c.self.inside.closed) (left_with c.self.inside.closed c.self.inside.capacity c.self.inside.items.items c.push_back_reserved.new.self.items c.args.v c.if-self.false (c.push_back_reserved.ensures.items ∙ ap (λ z. c.self.inside.items.items ++ z ∷ []) v)) in
    let left = ap length (open_left c.self.inside.closed c.self.inside.capacity c.self.inside.items.items c.if-self.false) in
    let was = ap (λ (w : WithRoom Channel). w.state.taken + length w.state.items) c.self.view_is in
    let count : s.taken + length s.items + 1 ≡ c.self.inside.taken + c.len.result = omega (arith, was, left, c.self.inside.items.ok.0) in
    let small : c.self.inside.taken + c.len.result ≤ 4294967296 = omega (arith, c.requires.offers) in
    let number : pos (s.taken + length s.items + 1) ≡ to_z w64 (c.self.inside.taken + c.len.result) = omega (arith, ints) in
    subst (λ (t : Channel). Asked Channel channel_left_by task (op.Offer name c.args.v) s (Done (reply.Int (to_z w64 (c.self.inside.taken + c.len.result)))) t) after
    (subst (λ n. Asked Channel channel_left_by task (op.Offer name c.args.v) s (Done (reply.Int n)) (with_item s c.args.v)) number
    (offer_numbered s task name c.requires.unbuffered c.args.v (ap (λ (w : WithRoom Channel). w.state.closed) (sym c.self.view_is) ∙ c.if-self.false)))

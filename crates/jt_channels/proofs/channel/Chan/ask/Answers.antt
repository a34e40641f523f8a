use Rattle.std.proofs.Common.{sym, ap, ◌∙◌, subst, rules, w64}
use Rattle.std.proofs.lemmas.Int.{to_z-of_z}
use mir.Val.{SFits}
use Rattle.jt_base.specs.declared.operation.Op.{Op}
use Rattle.jt_base.specs.declared.operation.Op.TheVariants.{Put, Offer}
use Rattle.jt_laws.specs.Channels.{Channel, channel_left_by}
use Rattle.jt_laws.specs.Objects.{Asked}
use Rattle.jt_channels.proofs.channel.Chan.ask.Goals as goal

pub returns-in-Put-clause-law : goal.returns-in-Put-clause-law
returns-in-Put-clause-law c = λ task name o.
    let v = c.in-Put.v in
    let fits : SFits w64 v = search rules in
    subst (λ (q : Op). Asked Channel channel_left_by task q c.args.self.now.state c.put.result c.put.new.self.state) (ap (Put c.in-Put.field-0) (to_z-of_z w64 v fits) ∙ sym c.in-Put.is) (c.put.ensures.law task c.in-Put.field-0)

pub returns-in-Offer-clause-law : goal.returns-in-Offer-clause-law
returns-in-Offer-clause-law c = λ task name o.
    let v = c.in-Offer.v in
    let fits : SFits w64 v = search rules in
    subst (λ (q : Op). Asked Channel channel_left_by task q c.args.self.now.state c.offer.result c.offer.new.self.state) (ap (Offer c.in-Offer.field-0) (to_z-of_z w64 v fits) ∙ sym c.in-Offer.is) (c.offer.ensures.law task c.in-Offer.field-0)

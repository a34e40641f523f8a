-- The place at an index is that of a depth.
use Rattle.std.proofs.Common.{◌≡◌, ◌≤◌, ◌+◌, ◌-◌, ◌∙◌, min, length, arith, ap, subst, sym}
use Rattle.std.proofs.lemmas.Grind.{common_steps}
use Rattle.jt_places.specs.Kept.{KeepsScopes}
use Rattle.jt_scopes.specs.Tests.{outer}
use Rattle.jt_places.proofs.PlaceLaws.{at_index}
use Rattle.jt_places.proofs.chain.Chain.at.Goals as goal

pub returns-in-Some-get : goal.returns-in-Some-get
returns-in-Some-get c =
    let low : 1 ≤ c.min-depth.result = c.in-Some.ensures.0 in
    let less : c.in-Some.index ≡ c.min-depth.result - 1 = c.in-Some.ensures.1 in
    let least : c.min-depth.result ≡ min c.args.depth (length c.self.inside.places) = c.min-depth.ensures ∙ ap (min c.args.depth) c.len.ensures in
    let deep : min c.args.depth (length c.self.inside.places) ≡ c.in-Some.index + 1 = omega arith in
    subst (λ z. KeepsScopes c.in-Some-get.place.now (outer c.args.depth z)) c.self.view_is
    (at_index c.self.inside.places c.self.inside.holders c.args.depth c.in-Some.index c.in-Some-get.place.now c.self.invariant deep (sym c.in-Some-get.ensures.value))

pub returns-in-None : goal.returns-in-None
returns-in-None c = grind (arith, common_steps)

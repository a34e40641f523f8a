-- A loop, and outside it the script's own scope.
use Rattle.std.proofs.Common.{◌&&◌, ◌∙◌, ap, sym, refl}
use Rattle.jt_places.specs.Kept.{begins_global}
use Rattle.jt_scopes.specs.Tests.{outer}
use Rattle.jt_places.proofs.NameTests.{ambiguous_answer}
use Rattle.jt_places.proofs.chain.Chain.is_ambiguous.Goals as goal

pub returns-then-standing : goal.returns-then-standing
returns-then-standing c =
    ambiguous_answer c.args.self.now c.args.name.now c.standing-standing.result c.is_global.result c.is_global.result c.standing-standing.ensures c.is_global.ensures (sym (ap (λ z. z && c.is_global.result) c.if-standing.true))

pub returns-else-standing : goal.returns-else-standing
returns-else-standing c =
    ambiguous_answer c.args.self.now c.args.name.now c.standing-standing.result (begins_global (outer c.standing-standing.result.begin c.args.self.now) c.args.name.now) c.standing-standing.result.repeats c.standing-standing.ensures refl
    (c.if-standing.false ∙ sym (ap (λ z. z && begins_global (outer c.standing-standing.result.begin c.args.self.now) c.args.name.now) c.if-standing.false))

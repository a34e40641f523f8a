-- The names are those of the functions.
use Rattle.std.proofs.Common.{◌∙◌, ap}
use Rattle.jt_names.specs.Tops.{function_index}
use Rattle.jt_names.proofs.Lookup.{function_found}
use Rattle.jt_signatures.proofs.functions.Functions.index.Goals as goal

pub returns : goal.returns
returns c = c.get.ensures ∙ (c.self.invariant c.args.name.now ∙ (function_found c.self.inside.list c.args.name.now ∙ ap (λ z. function_index z c.args.name.now) c.self.view_is))

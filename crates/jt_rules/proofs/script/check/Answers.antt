-- The walk began with the script's own scope and those within it.
use Rattle.std.proofs.Common.{◌≡◌, [], ◌∷◌, rules, arith}
use Rattle.std.proofs.lemmas.Grind.{common_steps}
use Rattle.jt_names.specs.Tops.{constants_of, signatures_of}
use Rattle.jt_outline.specs.View.{outline_view}
use Rattle.jt_syntax.specs.View.{script_view}
use Rattle.jt_rules.proofs.After.{answered}
use Rattle.jt_rules.proofs.script.check.Goals as goal

pub returns-clause-broken : goal.returns-clause-broken
returns-clause-broken c =
    let split : c.args.scopes.now ≡ c.in-Some.own.now ∷ c.in-Some.ahead.now = first_of (search rules, grind (arith, common_steps)) in
    let constants : c.in_ok-constants-in-Some.constants ≡ constants_of [] (script_view c.args.script.now) = first_of (search rules, grind (arith, common_steps)) in
    let functions : c.in_ok-functions-in-Some.functions ≡ signatures_of [] (script_view c.args.script.now) = first_of (search rules, grind (arith, common_steps)) in
    answered (script_view c.args.script.now) (outline_view c.args.outline.now) c.args.scopes.now c.in-Some.own.now c.in-Some.ahead.now c.in_ok-constants-in-Some.constants c.in_ok-functions-in-Some.functions c.in_ok-broken-in-Some.broken
    c.requires.outline c.requires.scopes split constants functions c.in_ok-broken-in-Some.ensures

use Rattle.std.proofs.Common.{◌≡◌, ◌∙◌, ◌+◌, ◌-◌, ◌≤◌, length, map, slice_get, subst, sym, ap, rules, arith}
use Rattle.std.proofs.lemmas.List.{length-map}
use Rattle.jt_syntax.specs.View.{top_views}
use Rattle.jt_grammar.proofs.Main.{lines_only}
use Rattle.jt_cursor.specs.Tokens.{now}
use Rattle.jt_parser.proofs.Whole.{is_script, is_unexpected, is_deep, not_spent}
use Rattle.jt_parser.proofs.parsing.parse.Goals as goal

pub returns-in-Ok-script-clause-found : goal.returns-in-Ok-script-clause-found
returns-in-Ok-script-clause-found c =
    let js = map now c.in-Ok.kept.items in
    let cursor : c.new-cursor.result ≡ js = search rules in
    let turns : c.len.result + 1 ≡ length js + 1 = omega (arith, length-map c.in-Ok.kept.items now) in
    is_script c.args.tokens.now js c.new-cursor.result (c.len.result + 1) c.requires.whole c.in-Ok.ensures cursor turns (top_views c.in-Ok-script.tops) c.script.new.tokens (search rules)

pub returns-in-Ok-script-clause-only : goal.returns-in-Ok-script-clause-only
returns-in-Ok-script-clause-only c =
    let js = map now c.in-Ok.kept.items in
    let cursor : c.new-cursor.result ≡ js = search rules in
    let turns : c.len.result + 1 ≡ length js + 1 = omega (arith, length-map c.in-Ok.kept.items now) in
    λ others a. lines_only c.args.tokens.now (top_views c.in-Ok-script.tops) others (is_script c.args.tokens.now js c.new-cursor.result (c.len.result + 1) c.requires.whole c.in-Ok.ensures cursor turns (top_views c.in-Ok-script.tops) c.script.new.tokens (search rules)).0 a

pub place-requires-clause-some : goal.place-requires-clause-some
place-requires-clause-some c =
    let js = map now c.in-Ok.kept.items in
    let cursor : c.new-cursor.result ≡ js = search rules in
    let turns : c.len.result + 1 ≡ length js + 1 = omega (arith, length-map c.in-Ok.kept.items now) in
    let x = is_unexpected c.args.tokens.now js c.new-cursor.result (c.len.result + 1) c.requires.whole c.in-Ok.ensures cursor turns c.in-Err-Unexpected.field-0 c.in-Err-Unexpected.left (search rules) c.in-Err-Unexpected.ensures in
    x.2.1

pub place-requires-clause-within : goal.place-requires-clause-within
place-requires-clause-within c =
    let js = map now c.in-Ok.kept.items in
    let cursor : c.new-cursor.result ≡ js = search rules in
    let turns : c.len.result + 1 ≡ length js + 1 = omega (arith, length-map c.in-Ok.kept.items now) in
    let x = is_unexpected c.args.tokens.now js c.new-cursor.result (c.len.result + 1) c.requires.whole c.in-Ok.ensures cursor turns c.in-Err-Unexpected.field-0 c.in-Err-Unexpected.left (search rules) c.in-Err-Unexpected.ensures in
    let same : c.deref-in-Err-Unexpected.result.now ≡ c.in-Ok.kept.items = search rules in
    subst (λ z. c.in-Err-Unexpected.left ≤ length z) (sym same) (omega (arith, x.2.0, length-map c.in-Ok.kept.items now))

pub returns-in-Err-Unexpected-clause-refused : goal.returns-in-Err-Unexpected-clause-refused
returns-in-Err-Unexpected-clause-refused c =
    let js = map now c.in-Ok.kept.items in
    let cursor : c.new-cursor.result ≡ js = search rules in
    let turns : c.len.result + 1 ≡ length js + 1 = omega (arith, length-map c.in-Ok.kept.items now) in
    let x = is_unexpected c.args.tokens.now js c.new-cursor.result (c.len.result + 1) c.requires.whole c.in-Ok.ensures cursor turns c.in-Err-Unexpected.field-0 c.in-Err-Unexpected.left (search rules) c.in-Err-Unexpected.ensures in
    let same : c.deref-in-Err-Unexpected.result.now ≡ c.in-Ok.kept.items = search rules in
    (x.0, x.1, c.place.ensures x.0 (ap (λ z. slice_get (map now z) (length (map now z) - c.in-Err-Unexpected.left)) same ∙ x.2.2))

pub place-requires-in-Err-TooDeep-clause-some : goal.place-requires-in-Err-TooDeep-clause-some
place-requires-in-Err-TooDeep-clause-some c =
    let js = map now c.in-Ok.kept.items in
    let cursor : c.new-cursor.result ≡ js = search rules in
    let turns : c.len.result + 1 ≡ length js + 1 = omega (arith, length-map c.in-Ok.kept.items now) in
    let x = is_deep c.args.tokens.now js c.new-cursor.result (c.len.result + 1) c.requires.whole c.in-Ok.ensures cursor turns c.in-Err-TooDeep.field-0 c.in-Err-TooDeep.left (search rules) c.in-Err-TooDeep.ensures in
    x.2.1

pub place-requires-in-Err-TooDeep-clause-within : goal.place-requires-in-Err-TooDeep-clause-within
place-requires-in-Err-TooDeep-clause-within c =
    let js = map now c.in-Ok.kept.items in
    let cursor : c.new-cursor.result ≡ js = search rules in
    let turns : c.len.result + 1 ≡ length js + 1 = omega (arith, length-map c.in-Ok.kept.items now) in
    let x = is_deep c.args.tokens.now js c.new-cursor.result (c.len.result + 1) c.requires.whole c.in-Ok.ensures cursor turns c.in-Err-TooDeep.field-0 c.in-Err-TooDeep.left (search rules) c.in-Err-TooDeep.ensures in
    let same : c.deref-in-Err-TooDeep.result.now ≡ c.in-Ok.kept.items = search rules in
    subst (λ z. c.in-Err-TooDeep.left ≤ length z) (sym same) (omega (arith, x.2.0, length-map c.in-Ok.kept.items now))

pub returns-in-Err-TooDeep-clause-refused : goal.returns-in-Err-TooDeep-clause-refused
returns-in-Err-TooDeep-clause-refused c =
    let js = map now c.in-Ok.kept.items in
    let cursor : c.new-cursor.result ≡ js = search rules in
    let turns : c.len.result + 1 ≡ length js + 1 = omega (arith, length-map c.in-Ok.kept.items now) in
    let x = is_deep c.args.tokens.now js c.new-cursor.result (c.len.result + 1) c.requires.whole c.in-Ok.ensures cursor turns c.in-Err-TooDeep.field-0 c.in-Err-TooDeep.left (search rules) c.in-Err-TooDeep.ensures in
    let same : c.deref-in-Err-TooDeep.result.now ≡ c.in-Ok.kept.items = search rules in
    (x.0, x.1, c.place-in-Err-TooDeep.ensures x.0 (ap (λ z. slice_get (map now z) (length (map now z) - c.in-Err-TooDeep.left)) same ∙ x.2.2))

pub unreachable-requires : goal.unreachable-requires
unreachable-requires c =
    let js = map now c.in-Ok.kept.items in
    let cursor : c.new-cursor.result ≡ js = search rules in
    let turns : c.len.result + 1 ≡ length js + 1 = omega (arith, length-map c.in-Ok.kept.items now) in
    not_spent c.args.tokens.now js c.new-cursor.result (c.len.result + 1) c.requires.whole c.in-Ok.ensures cursor turns c.in-Err-Spent.field-0 c.in-Err-Spent.field-0-is c.in-Err-Spent.ensures

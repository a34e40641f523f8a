use Rattle.std.proofs.Common.{rules, tests, sym, subst, ◌≡◌, codes, map, string_bytes, ◌∷◌}
use Rattle.jt_words.specs.Commands.{Exactly, IsCommand}
use Rattle.jt_words.proofs.Named.{check_says, draws_says, gen_says, run_says, trace_says}
use Rattle.jt_words.proofs.words.command_behind.Goals as goal

pub returns-then-eq : goal.returns-then-eq
returns-then-eq c =
    let named : c.args.first.now ≡ codes "run" = search (rules, tests) in
    subst (Exactly (IsCommand (c.args.first.now ∷ map string_bytes c.args.words.now))) (sym c.run_command.ensures) (run_says _ _ _ named c.in_ok-run.ensures)

pub returns-then-eq-2 : goal.returns-then-eq-2
returns-then-eq-2 c =
    let named : c.args.first.now ≡ codes "trace" = search (rules, tests) in
    subst (Exactly (IsCommand (c.args.first.now ∷ map string_bytes c.args.words.now))) (sym c.trace_command.ensures) (trace_says _ _ _ named c.in_ok-traced.ensures)

pub returns-then-eq-3 : goal.returns-then-eq-3
returns-then-eq-3 c =
    let named : c.args.first.now ≡ codes "check" = search (rules, tests) in
    subst (Exactly (IsCommand (c.args.first.now ∷ map string_bytes c.args.words.now))) (sym c.check_command.ensures) (check_says _ _ named)

pub returns-then-eq-4 : goal.returns-then-eq-4
returns-then-eq-4 c =
    let named : c.args.first.now ≡ codes "draws" = search (rules, tests) in
    subst (Exactly (IsCommand (c.args.first.now ∷ map string_bytes c.args.words.now))) (sym c.draws_command.ensures) (draws_says _ _ _ named c.in_ok-draws.ensures)

pub returns-then-eq-5 : goal.returns-then-eq-5
returns-then-eq-5 c =
    let named : c.args.first.now ≡ codes "gen" = search (rules, tests) in
    subst (Exactly (IsCommand (c.args.first.now ∷ map string_bytes c.args.words.now))) (sym c.gen_command.ensures) (gen_says _ _ _ named c.in_ok-generated.ensures)

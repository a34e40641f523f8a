-- The machine at its beginning, and what its run says of the program's.
use Rattle.std.proofs.Common.{◌<◌, [], rules, sym, ap, ◌∙◌, subst}
use Rattle.std.proofs.lemmas.Result.{IfOk-weaker}
use Rattle.jt_base.specs.declared.run.Pool.TheVariants.{Default}
use Rattle.jt_program.specs.View.{program_plan}
use Rattle.jt_step.specs.Tasks.{new_task}
use Rattle.jt_machine.proofs.Finish.{run_in, seeds_in, shards_in, adopted_is, adopted_by}
use Rattle.jt_machine.proofs.Starting.{begun}
use Rattle.jt_machine.proofs.Advancing.{many_bodies}
use Rattle.jt_machine.proofs.run.run_on_one_worker.Goals as goal

pub adopt-requires-clause-resumes : goal.adopt-requires-clause-resumes
adopt-requires-clause-resumes c =
    begun _ _ _ _ c.in_ok-main.main
    (c.in_ok-main.ensures
    ∙ ap (λ p. new_task (record { program = program_plan c.args.program.now; sizes = c.args.sizes; limits = c.args.limits.now }) p c.in_ok-start.start Default) c.main-2.ensures
    ∙ ap (λ s. new_task (record { program = program_plan c.args.program.now; sizes = c.args.sizes; limits = c.args.limits.now }) [] s Default) c.in_ok-start.ensures)
    (subst (λ n. 0 < n) (sym (many_bodies c.args.program.now)) c.requires.main) c.in_ok-shards.ensures (search rules)

pub returns-clause-run : goal.returns-clause-run
returns-clause-run c =
    let m = c.in_ok-machine.ensures in
    IfOk-weaker c.run.result _ _ (λ r i. adopted_is _ _ _ _ _ _ (ap run_in m) (ap seeds_in m) i) c.run.ensures.run

pub returns-clause-workers : goal.returns-clause-workers
returns-clause-workers c =
    let m = c.in_ok-machine.ensures in
    IfOk-weaker c.run.result _ _ (λ r g. adopted_by _ _ _ _ _ _ _ (ap run_in m) (ap seeds_in m) (ap shards_in m) c.in_ok-shards.ensures g) c.run.ensures.goes_on

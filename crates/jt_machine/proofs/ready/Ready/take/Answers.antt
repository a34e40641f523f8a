-- The job that is taken out goes before those that are left.
use Rattle.std.proofs.lemmas.List.Sorted.{IsPermutation-remove}
use Rattle.jt_machine.proofs.ready.Ready.take.Goals as goal

pub returns : goal.returns
returns c =
    rw (← c.self.view_is, c.in-Some.ensures.items)
    (IsPermutation-remove c.self.inside.jobs.items c.args.place c.in-Some.job (rw (← c.self.view_is) at c.requires) c.in-Some.ensures.value)

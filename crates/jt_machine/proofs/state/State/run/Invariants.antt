use Rattle.jt_machine.specs.Machines.{run_of, AreSettled, Runs, Grows}
use Rattle.jt_machine.proofs.Falling.{work_left}
use Rattle.jt_machine.proofs.state.State.run.Given as goal

-- the run goes on
abbrev pub invariant-slices : goal.invariant-slices
invariant-slices l = Runs (run_of l.setting) l.setting.seeds l.self.shards.items l.self.ready × AreSettled l.self.shards.items × Grows (run_of l.setting) l.setting.seeds l.fn.self.shards.items l.self.shards.items

-- the stamps, for each of them all jobs that there may be, and the jobs that are ready
abbrev pub decreases-slices : goal.decreases-slices
decreases-slices l = work_left l.self.shards.items l.self.ready

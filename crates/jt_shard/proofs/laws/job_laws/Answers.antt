-- The laws of the trait are those of its worlds.
use Rattle.jt_shard.proofs.RunLaws.{laws_of}
use Rattle.jt_shard.proofs.laws.job_laws.Goals as goal

pub returns : goal.returns
returns g c = λ run main sizes events.
    let met = g.met.J.Job g.world.𝓛 g.world.𝓜 g.world.𝓡 ((λ s x. x), (λ x. x), (λ x. x), λ x. x) in
    laws_of g.row.J-Start.Denot (record { next = g.J.Job.next run; main = main; sizes = sizes; events = events }) (met.begins run) (met.no_spawn run) (met.names run)

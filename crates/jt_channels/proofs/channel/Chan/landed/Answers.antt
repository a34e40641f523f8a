use Rattle.std.proofs.Common.{◌<◌, ◌≤◌, sym, ap, ◌∙◌, subst}
use Rattle.jt_laws.specs.Channels.{Channel}
use Rattle.jt_laws.specs.Objects.{WithRoom}
use Rattle.jt_channels.proofs.Waiting.{landed_ok, landed_closed, landed_waits}
use Rattle.jt_channels.proofs.channel.Chan.landed.Goals as goal

pub returns-then-k-self-clause-law : goal.returns-then-k-self-clause-law
returns-then-k-self-clause-law c = λ task name.
    landed_ok c.args.self.now.state task name c.requires.unbuffered c.args.k (subst (λ (w : WithRoom Channel). c.args.k ≤ w.state.taken) c.self.view_is c.if-k-self.true)

pub returns-then-self-clause-law : goal.returns-then-self-clause-law
returns-then-self-clause-law c = λ task name.
    landed_closed c.args.self.now.state task name c.requires.unbuffered c.args.k (subst (λ (w : WithRoom Channel). w.state.taken < c.args.k) c.self.view_is c.if-k-self.false) (ap (λ (w : WithRoom Channel). w.state.closed) (sym c.self.view_is) ∙ c.if-self.true)

pub returns-clause-law : goal.returns-clause-law
returns-clause-law c = λ task name.
    landed_waits c.args.self.now.state task name c.requires.unbuffered c.args.k (subst (λ (w : WithRoom Channel). w.state.taken < c.args.k) c.self.view_is c.if-k-self.false) (ap (λ (w : WithRoom Channel). w.state.closed) (sym c.self.view_is) ∙ c.if-self.false)

use Rattle.std.proofs.Common.{subst}
use Rattle.jt_sleep_core.specs.Sound.{NoLostWakeUp}
use Rattle.jt_sleep_core.proofs.Reached.{made_sound, sound_quiet}
use Rattle.jt_sleep_core.proofs.machine.Core.apply.Goals as goal

pub returns-then-not-allows-clause-no_lost_wake_up : goal.returns-then-not-allows-clause-no_lost_wake_up
returns-then-not-allows-clause-no_lost_wake_up c =
    subst NoLostWakeUp c.self.view_is (sound_quiet c.self.inside.state c.self.invariant.0 c.self.invariant.1)

pub invariant_of-self : goal.invariant_of-self
invariant_of-self c = made_sound c.self.inside.state c.make.new.self c.args.step c.self.invariant (c.allows.ensures.0 c.if-not-allows.false) c.make.ensures.state

pub returns-clause-sound : goal.returns-clause-sound
returns-clause-sound c = (made_sound c.self.inside.state c.make.new.self c.args.step c.self.invariant (c.allows.ensures.0 c.if-not-allows.false) c.make.ensures.state).1

pub returns-clause-no_lost_wake_up : goal.returns-clause-no_lost_wake_up
returns-clause-no_lost_wake_up c =
    let made = made_sound c.self.inside.state c.make.new.self c.args.step c.self.invariant (c.allows.ensures.0 c.if-not-allows.false) c.make.ensures.state in
    sound_quiet c.make.new.self made.0 made.1

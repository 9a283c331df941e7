use Rattle.std.proofs.Common.{subst}
use Rattle.tk_ntp.specs.Course.{seen}
use Rattle.tk_ntp.specs.Pulsed.{IsPulsed}
use Rattle.tk_ntp.specs.SteeredClock.{SteeredClock}
use Rattle.tk_ntp.proofs.PulseLaws.{pulsed_kept, pulsed_consistent, pulsed_small, pulsed_sum}
use Rattle.tk_ntp.proofs.Pulses.{pulsed_alone}
use Rattle.tk_ntp.proofs.steered_clock.SteeredClock.pulse.Goals as goal

pub returns-clause-answer : goal.returns-clause-answer
returns-clause-answer c =
    subst (λ (s : SteeredClock). IsPulsed c.args.reading c.args.pulse s c.pulse.result
    (seen c.pulse.new.clocks c.pulse.new.self)) c.self.view_is
    (pulsed_alone 0 c.args.reading c.args.pulse c.self.inside.clock c.self.inside.course
    c.pulse.result c.pulse.new.clocks c.pulse.new.self c.pulse.ensures)

pub returns-clause-sum : goal.returns-clause-sum
returns-clause-sum c =
    pulsed_sum c.args.reading c.args.pulse c.args.self.now
    (seen c.pulse.new.clocks c.pulse.new.self) c.pulse.result (returns-clause-answer c)

pub returns-clause-small : goal.returns-clause-small
returns-clause-small c =
    pulsed_small c.args.reading c.args.pulse c.args.self.now
    (seen c.pulse.new.clocks c.pulse.new.self) c.pulse.result (returns-clause-answer c)

pub returns-clause-consistent : goal.returns-clause-consistent
returns-clause-consistent c =
    pulsed_consistent c.args.reading c.args.pulse c.args.self.now
    (seen c.pulse.new.clocks c.pulse.new.self) c.pulse.result (returns-clause-answer c)

pub returns-clause-kept : goal.returns-clause-kept
returns-clause-kept c =
    pulsed_kept c.args.reading c.args.pulse c.args.self.now
    (seen c.pulse.new.clocks c.pulse.new.self) c.pulse.result (returns-clause-answer c)

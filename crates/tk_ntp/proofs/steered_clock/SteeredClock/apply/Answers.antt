use Rattle.std.proofs.Common.{subst}
use Rattle.tk_ntp.specs.Applied.{IsApplied}
use Rattle.tk_ntp.specs.Course.{seen}
use Rattle.tk_ntp.specs.SteeredClock.{SteeredClock}
use Rattle.tk_ntp.proofs.Alone.{applied}
use Rattle.tk_ntp.proofs.Laws.{applied_consistent, applied_small, applied_sum, applied_woken}
use Rattle.tk_ntp.proofs.steered_clock.SteeredClock.apply.Goals as goal

pub returns-clause-answer : goal.returns-clause-answer
returns-clause-answer c =
    subst (λ (s : SteeredClock). IsApplied c.args.reading c.args.cmd s c.apply.result
    (seen c.apply.new.clocks c.apply.new.self)) c.self.view_is
    (applied 0 c.args.reading c.args.cmd c.self.inside.clock c.self.inside.course c.apply.result
    c.apply.new.clocks c.apply.new.self c.apply.ensures)

pub returns-clause-sum : goal.returns-clause-sum
returns-clause-sum c =
    applied_sum c.args.reading c.args.cmd c.args.self.now
    (seen c.apply.new.clocks c.apply.new.self) c.apply.result (returns-clause-answer c)

pub returns-clause-small : goal.returns-clause-small
returns-clause-small c =
    applied_small c.args.reading c.args.cmd c.args.self.now
    (seen c.apply.new.clocks c.apply.new.self) c.apply.result (returns-clause-answer c)

pub returns-clause-woken : goal.returns-clause-woken
returns-clause-woken c =
    applied_woken c.args.reading c.args.cmd c.args.self.now
    (seen c.apply.new.clocks c.apply.new.self) c.apply.result (returns-clause-answer c)

pub returns-clause-consistent : goal.returns-clause-consistent
returns-clause-consistent c =
    applied_consistent c.args.reading c.args.cmd c.args.self.now
    (seen c.apply.new.clocks c.apply.new.self) c.apply.result (returns-clause-answer c)

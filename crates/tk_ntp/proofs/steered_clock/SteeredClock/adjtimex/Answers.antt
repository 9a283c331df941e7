use Rattle.std.proofs.Common.{subst}
use Rattle.tk_ntp.specs.Asked.{IsAnswered}
use Rattle.tk_ntp.specs.Course.{seen}
use Rattle.tk_ntp.specs.SteeredClock.{SteeredClock}
use Rattle.tk_ntp.proofs.Alone.{answered}
use Rattle.tk_ntp.proofs.Laws.{answered_consistent, answered_small, answered_sum}
use Rattle.tk_ntp.proofs.steered_clock.SteeredClock.adjtimex.Goals as goal

pub returns-clause-answer : goal.returns-clause-answer
returns-clause-answer c =
    subst (λ (s : SteeredClock). IsAnswered c.args.reading c.args.request.now s c.adjtimex.result
    (seen c.adjtimex.new.clocks c.adjtimex.new.self)) c.self.view_is
    (answered 0 c.args.reading c.args.request.now c.self.inside.clock c.self.inside.course
    c.adjtimex.result c.adjtimex.new.clocks c.adjtimex.new.self c.adjtimex.ensures)

pub returns-clause-sum : goal.returns-clause-sum
returns-clause-sum c =
    answered_sum c.args.reading c.args.request.now c.args.self.now
    (seen c.adjtimex.new.clocks c.adjtimex.new.self) c.adjtimex.result (returns-clause-answer c)

pub returns-clause-small : goal.returns-clause-small
returns-clause-small c =
    answered_small c.args.reading c.args.request.now c.args.self.now
    (seen c.adjtimex.new.clocks c.adjtimex.new.self) c.adjtimex.result (returns-clause-answer c)

pub returns-clause-consistent : goal.returns-clause-consistent
returns-clause-consistent c =
    answered_consistent c.args.reading c.args.request.now c.args.self.now
    (seen c.adjtimex.new.clocks c.adjtimex.new.self) c.adjtimex.result (returns-clause-answer c)

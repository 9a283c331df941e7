use Rattle.tk_ntp.specs.Advance.{seconds_left}
use Rattle.tk_shared_steered.specs.Late.{HaveBegunLate}
use Rattle.tk_shared_steered.specs.Owner.{Owner}
use Rattle.tk_shared_steered.specs.Readings.{AreAtReadings}
use Rattle.tk_shared_steered.proofs.shared_steering.SharedSteering.advance_late.Given as goal

abbrev pub invariant-seconds : goal.invariant-seconds
invariant-seconds g l =
    ((after : Owner) → HaveBegunLate l.self after → HaveBegunLate l.initial.self after)
    × AreAtReadings g.C.Counter.answers_after l.self.caller l.initial.self.count l.self.count

abbrev pub decreases-seconds : goal.decreases-seconds
decreases-seconds g l = seconds_left l.self.clock

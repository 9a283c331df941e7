use Rattle.tk_ntp.specs.Course.{Course, seen}
use Rattle.tk_ntp.proofs.Restored.{steered_back}
use Rattle.tk_ntp.proofs.course.Course.numbers.Goals as goal

pub returns-clause-back : goal.returns-clause-back
returns-clause-back c = λ clock.
    let course : Course = record {
      steering = c.self.inside.steering;
      next = c.self.inside.next;
      last_account = c.self.inside.last_account;
    } in
    rw (← c.self.view_is)
    (steered_back (seen clock course) c.numbers.ensures.range c.numbers.ensures.lag
    c.numbers.ensures.back c.self.invariant)

use Rattle.tk_session.proofs.Sessions.{kept-continued, kept-opened}
use Rattle.tk_session.proofs.session.Session.begin.Goals as goal

pub begin-requires : goal.begin-requires
begin-requires c = rw c.in-Opened.is at c.requires

pub begin-requires-in-Running : goal.begin-requires-in-Running
begin-requires-in-Running c = rw c.in-Running.is at c.requires

pub steered_at-clock-requires : goal.steered_at-clock-requires
steered_at-clock-requires c = rw c.in-Steered.is at c.requires

pub returns-in-Opened-clause-clocks : goal.returns-in-Opened-clause-clocks
returns-in-Opened-clause-clocks c =
    rw (c.in-Opened.is, c.of_plain.ensures.clocks) (c.of_plain.ensures.steered, c.begin.ensures)

pub returns-in-Running-clause-clocks : goal.returns-in-Running-clause-clocks
returns-in-Running-clause-clocks c =
    rw (c.in-Running.is, c.of_plain-in-Running.ensures.clocks)
    (c.of_plain-in-Running.ensures.steered, c.begin-in-Running.ensures)

pub returns-in-Steered-clause-clocks : goal.returns-in-Steered-clause-clocks
returns-in-Steered-clause-clocks c =
    let made = c.of_steered.ensures in
    rw (c.in-Steered.is, made.clocks, made.course) (
      made.steered,
      kept-opened c.in-Steered.opening c.in-Steered.hz c.steered_at-clock.result
          c.steered_at-clock.ensures,
    )

pub returns-in-Continued-clause-clocks : goal.returns-in-Continued-clause-clocks
returns-in-Continued-clause-clocks c =
    let made = c.of_steered-in-Continued.ensures in
    rw (c.in-Continued.is, made.clocks, made.course)
    (made.steered, kept-continued c.in-Continued.front c.in-Continued.clock made.running.steered)

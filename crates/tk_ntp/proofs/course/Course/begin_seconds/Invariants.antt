use Rattle.tk_ntp.specs.Advance.{seconds_left}
use Rattle.tk_ntp.specs.Course.{Course, seen}
use Rattle.tk_ntp.specs.Keeping.{HasBegun}
use Rattle.tk_ntp.proofs.course.Course.begin_seconds.Given as goal

abbrev pub invariant-seconds : goal.invariant-seconds
invariant-seconds g l =
    let kept = g.C.Clocks in
    (end : _) (after : Course) →
    HasBegun kept.state kept.is_after kept.has_room kept.is_short l.is_late l.who l.reading
    l.clocks l.self end after →
    HasBegun kept.state kept.is_after kept.has_room kept.is_short l.is_late l.who l.reading
    l.initial.clocks l.initial.self end after

abbrev pub decreases-seconds : goal.decreases-seconds
decreases-seconds g l = seconds_left (seen (g.C.Clocks.state l.clocks) l.self)

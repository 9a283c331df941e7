use Rattle.std.proofs.Common.{◌≡◌}
use Rattle.tk_ntp.specs.Second.{with_plan}
use Rattle.tk_ntp.proofs.Long.{IsAsLong-with_phase}
use Rattle.tk_ntp.proofs.discipline.Discipline.overflow.Goals as goal

pub returns-clause-length : goal.returns-clause-length
returns-clause-length c =
    rw c.grow_error.ensures
    (rw c.begin_leap-leap.ensures.state at
    (IsAsLong-with_phase c.begin_leap-leap.new.self c.take_phase.new.self c.take_phase.ensures.state
    c.take_phase.ensures.ranges c.take_phase.ensures.adjust))

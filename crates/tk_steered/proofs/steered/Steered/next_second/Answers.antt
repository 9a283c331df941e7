use Rattle.std.proofs.Common.{subst}
use Rattle.std.specs.Prelude.{MatchOption}
use Rattle.tk_clock.specs.declared.clock_id.ClockId.TheVariants.{Realtime}
use Rattle.tk_clock.specs.Reach.{IsFirstReached, IsNeverReached}
use Rattle.tk_clock.specs.State.{State}
use Rattle.tk_clock.specs.Time.{nanoseconds}
use Rattle.tk_keeper.specs.Room.{keeper_state}
use Rattle.tk_ntp.specs.Advance.{second_time}
use Rattle.tk_steered.specs.Kept.{SteeredKeeper}
use Rattle.tk_steered.proofs.steered.Steered.next_second.Goals as goal

pub returns : goal.returns
returns g c =
    let course = c.self.inside.course in
    subst (λ (k : SteeredKeeper). let base = (keeper_state k.keeper).base in
    let nanos = nanoseconds (second_time k.course.next) in
    MatchOption c.next_second.result (IsNeverReached base Realtime nanos)
    (λ reading. IsFirstReached base Realtime nanos reading)) c.self.view_is
    (subst (λ (clock : State). let nanos = nanoseconds (second_time course.next) in
    MatchOption c.next_second.result (IsNeverReached clock.base Realtime nanos)
    (λ reading. IsFirstReached clock.base Realtime nanos reading)) c.clock.ensures
    c.next_second.ensures)

-- What clocks were asked for is what they were given, over commands at their own readings.
use Rattle.std.proofs.Common.{◌≡◌, refl, ℕ, ◌+◌, ◌<◌, ◌≤◌, arith, Bool, true, false, nat_eq}
use Rattle.std.specs.Prelude.{ℤ, pos, if◌then◌else◌}
use Rattle.tk_clock.specs.declared.command.Command.{Command}
use Rattle.tk_clock.specs.declared.command.Command.TheVariants.{Update, SetTime, Step, Freq, Tick, Tai, Leap as LeapSecond, Suspend, Resume}
use Rattle.tk_clock.specs.declared.timespec.Timespec.{Timespec}
use Rattle.tk_clock.specs.Command.{is_resume}
use Rattle.tk_clock.specs.Limits.{clock_end}
use Rattle.tk_clock.specs.State.{State, effect}
use Rattle.tk_ntp.specs.declared.leap.Leap.{Leap}
use Rattle.tk_ntp.specs.declared.leap.Leap.TheVariants.{None as NoLeap, Insert, Delete}
use Rattle.tk_ntp.specs.Account.{units_at, lag_to}
use Rattle.tk_ntp.specs.Advance.{leap_of_clock, seconds_left, steps_before, tai_of_clock, with_next_second}
use Rattle.tk_ntp.specs.Bits.{has, sta_ins, sta_del}
use Rattle.tk_ntp.specs.Followed.{followed, leap_followed, IsNoEarlier, IsOwedAt, seconds_left_after}
use Rattle.tk_ntp.specs.Lag.{greatest_lag}
use Rattle.tk_ntp.specs.Leap.{leap_seconds, second_after_leap, tai_after_leap}
use Rattle.tk_ntp.specs.Second.{leap_at}
use Rattle.tk_ntp.specs.SteeredClock.{SteeredClock}
use Rattle.tk_ntp.proofs.Account.{account-sum, kept_whole, never}
use Rattle.tk_ntp.proofs.Made.{kept_units}
use Rattle.tk_ntp.proofs.Seconds.{back, counted, plan_steps}

-- a command at a reading keeps MONOTONIC there, unless it wakes the clocks
units-kept : (clock : State) (reading : ℕ) (cmd : Command) → is_resume cmd ≡ false →
    units_at reading (effect clock reading cmd) ≡ units_at reading clock
units-kept clock reading Update plain =
    kept_units clock.base.counter reading (units_at reading clock) clock.base.mult
units-kept clock reading (SetTime time) plain =
    kept_units clock.base.counter reading (units_at reading clock) clock.base.mult
units-kept clock reading (Step by) plain =
    kept_units clock.base.counter reading (units_at reading clock) clock.base.mult
units-kept clock reading (Freq frequency) plain =
    kept_units clock.base.counter reading (units_at reading clock)
    (effect clock reading (Freq frequency)).base.mult
units-kept clock reading (Tick tick) plain =
    kept_units clock.base.counter reading (units_at reading clock)
    (effect clock reading (Tick tick)).base.mult
units-kept clock reading (Tai seconds) plain =
    kept_units clock.base.counter reading (units_at reading clock) clock.base.mult
units-kept clock reading (LeapSecond by tai) plain =
    kept_units clock.base.counter reading (units_at reading clock) clock.base.mult
units-kept clock reading Suspend plain =
    kept_units clock.base.counter reading (units_at reading clock) clock.base.mult
units-kept clock reading (Resume away) plain = absurd (never plain)

-- the account of a second that begins without a command
pub begun_owed : (at : ℕ) (steered : SteeredClock) → IsNoEarlier at steered →
    IsOwedAt at steered (with_next_second at steered)
begun_owed at steered order =
    let next = with_next_second at steered in
    record {
      sum = account-sum at next.steering.lag steered next refl refl refl order;
      kept = kept_whole (greatest_lag steered.clock.base.counter) (lag_to at steered);
    }

-- the account of a command that is followed
pub followed_owed : (reading : ℕ) (cmd : Command) (steered : SteeredClock) →
    is_resume cmd ≡ false → IsNoEarlier reading steered →
    IsOwedAt reading steered (followed reading cmd steered)
followed_owed reading cmd steered plain order =
    let next = followed reading cmd steered in
    record {
      sum = account-sum reading next.steering.lag steered next refl refl
          (units-kept steered.clock reading cmd plain) order;
      kept = kept_whole (greatest_lag steered.clock.base.counter) (lag_to reading steered);
    }

-- the command of a leap wakes no clocks
no_resume : (alone : Bool) (step : Timespec) (by tai : ℤ) →
    is_resume (if alone then Step step else LeapSecond by tai) ≡ false
no_resume true step by tai = refl
no_resume false step by tai = refl

leap-plain : (leap : Leap) (clock : State) → is_resume (leap_of_clock leap clock) ≡ false
leap-plain leap clock =
    let tai = tai_of_clock clock in
    no_resume (nat_eq (tai_after_leap leap tai) tai)
    (record { sec = leap_seconds leap; nsec = 0 }) (leap_seconds leap)
    (pos (tai_after_leap leap tai))

-- the account of a leap that is followed
pub leapt_owed : (reading : ℕ) (leap : Leap) (steered : SteeredClock) →
    IsNoEarlier reading steered → IsOwedAt reading steered (leap_followed reading leap steered)
leapt_owed reading leap steered order =
    let next = leap_followed reading leap steered in
    record {
      sum = account-sum reading next.steering.lag steered next refl refl
          (units-kept steered.clock reading (leap_of_clock leap steered.clock)
          (leap-plain leap steered.clock)) order;
      kept = kept_whole (greatest_lag steered.clock.base.counter) (lag_to reading steered);
    }

leap-next : (leap : Leap) (next : ℕ) → next + 1 ≤ second_after_leap leap (next + 1) + back leap
leap-next NoLeap next = omega arith
leap-next Insert next = omega arith
leap-next Delete next = omega arith

-- each second that begins leaves fewer of them, its leap included
pub fewer_alone : (at : ℕ) (steered : SteeredClock) → steered.next < clock_end →
    let leap = leap_at steered.steering.ntp steered.next in
    seconds_left_after leap (with_next_second at steered) < seconds_left steered
fewer_alone at steered low =
    let ntp = steered.steering.ntp in
    let leap = leap_at ntp steered.next in
    counted steered.next (second_after_leap leap (steered.next + 1)) (back leap)
    (steps_before (with_next_second at steered).steering.ntp.plan.state)
    (steps_before ntp.plan.state) low (leap-next leap steered.next)
    (plan_steps ntp.plan.state ntp.plan (has ntp.status sta_ins) (has ntp.status sta_del)
    steered.next)

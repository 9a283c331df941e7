-- Seconds of REALTIME that begin late: the clocks get all commands at the reading of the call, for
-- clocks that others have read meanwhile.
use Rattle.std.specs.Prelude.{ℕ, nat_lt, if◌then◌else◌}
use Rattle.tk_counter.specs.Counter.{half, gap}
use Rattle.tk_ntp.specs.Advance.{leapt, with_next_second, IsAdvancedBy}
use Rattle.tk_ntp.specs.Second.{leap_at}
use Rattle.tk_ntp.specs.SteeredClock.{SteeredClock, accounted_to, steered_at}

-- the reading at which a late second begins: its own, or the last account if that is later
abbrev pub late_start : ℕ → SteeredClock → ℕ
late_start at steered =
    let counter = steered.clock.base.counter in
    if nat_lt (half counter) (gap counter steered.last_account at) then steered.last_account else at

-- the state as the next second begins late, before any command: the lag is accounted for up to the
-- reading of the commands
abbrev pub with_late_second : ℕ → ℕ → SteeredClock → SteeredClock
with_late_second at reading steered =
    accounted_to reading (with_next_second (late_start at steered) steered)

-- the state after the next second has begun late, with its commands at a reading
abbrev pub second_begun_late : ℕ → ℕ → SteeredClock → SteeredClock
second_begun_late at reading steered =
    steered_at reading
    (leapt reading (leap_at steered.steering.ntp steered.next)
    (with_late_second at reading steered))

-- a state after each second of REALTIME up to a reading has begun late, one after the other
abbrev pub IsAdvancedLate : ℕ → SteeredClock → SteeredClock → Type 0
IsAdvancedLate reading before after =
    IsAdvancedBy (λ at. second_begun_late at reading) reading before after

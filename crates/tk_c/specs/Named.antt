-- The numbers of commands and clocks in C: enum tkc_command and enum tkc_clock_id of include/tkcore.h.
use Rattle.std.specs.Prelude.{ℕ, ℤ, pos, Option, Some, None, nat_eq, if◌then◌else◌}
use Rattle.tk_clock.specs.declared.timespec.Timespec.{Timespec}
use Rattle.tk_clock.specs.declared.command.Command.{Command}
use Rattle.tk_clock.specs.declared.command.Command.TheVariants.{Update, SetTime, Step, Freq, Tick, Tai, Leap, Suspend, Resume}
use Rattle.tk_clock.specs.declared.clock_id.ClockId.{ClockId}
use Rattle.tk_clock.specs.declared.clock_id.ClockId.TheVariants.{Realtime, Monotonic, Boottime, Tai as TaiClock, RealtimeCoarse, MonotonicCoarse, MonotonicRaw}

-- the command with this number, if there is one; `number` is the seconds of a time or of a leap, a
-- frequency, a tick or a TAI offset, and `nsec` is the nanoseconds of a time, or the TAI offset
-- after a leap, in seconds
abbrev pub command_named : ℕ → ℤ → ℕ → Option Command
command_named command number nsec =
    let time : Timespec = record { sec = number; nsec = nsec } in
    if nat_eq command 0 then Some Update
    else if nat_eq command 1 then Some (SetTime time)
    else if nat_eq command 2 then Some (Step time)
    else if nat_eq command 3 then Some (Freq number)
    else if nat_eq command 4 then Some (Tick number)
    else if nat_eq command 5 then Some (Tai number)
    else if nat_eq command 6 then Some Suspend
    else if nat_eq command 7 then Some (Resume time)
    else if nat_eq command 8 then Some (Leap number (pos nsec))
    else None

-- the clock with this number, as in clock_gettime(2), if there is one
abbrev pub clock_named : ℕ → Option ClockId
clock_named clock =
    if nat_eq clock 0 then Some Realtime
    else if nat_eq clock 1 then Some Monotonic
    else if nat_eq clock 4 then Some MonotonicRaw
    else if nat_eq clock 5 then Some RealtimeCoarse
    else if nat_eq clock 6 then Some MonotonicCoarse
    else if nat_eq clock 7 then Some Boottime
    else if nat_eq clock 11 then Some TaiClock
    else None

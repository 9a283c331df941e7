-- The effects of commands on the clocks (kernel/time/timekeeping.c).
use Rattle.std.specs.Prelude.{◌^◌, ℤ, pos, ◌*ℤ◌, Bool, true, false, Option, Some, None}
use Rattle.tk_clock.specs.declared.command.Command.{Command}
use Rattle.tk_clock.specs.declared.command.Command.TheVariants.{SetTime, Step, Freq, Tick, Tai, Leap, Suspend, Resume}
use Rattle.tk_clock.specs.Time.{nanoseconds}

-- whether the command puts the clocks to sleep (timekeeping_suspend)
abbrev pub is_suspend : Command → Bool
is_suspend Suspend = true
is_suspend _ = false

-- whether the command wakes the clocks (timekeeping_resume)
abbrev pub is_resume : Command → Bool
is_resume (Resume away) = true
is_resume _ = false

-- the frequency that the command sets, in 2^-16 ppm (adjtimex(2), ADJ_FREQUENCY)
abbrev pub frequency_set : Command → Option ℤ
frequency_set (Freq frequency) = Some frequency
frequency_set _ = None

-- the tick that the command sets, in microseconds (adjtimex(2), ADJ_TICK)
abbrev pub tick_set : Command → Option ℤ
tick_set (Tick tick) = Some tick
tick_set _ = None

-- whether the command sets the multiplier
abbrev pub sets_multiplier : Command → Bool
sets_multiplier (Freq frequency) = true
sets_multiplier (Tick tick) = true
sets_multiplier _ = false

-- the TAI offset that the command sets, in seconds (adjtimex(2), ADJ_TAI; after a leap second,
-- accumulate_nsecs_to_secs)
abbrev pub tai_set : Command → Option ℤ
tai_set (Tai seconds) = Some seconds
tai_set (Leap by tai) = Some tai
tai_set _ = None

-- REALTIME as the command sets it, in nanoseconds (do_settimeofday64)
abbrev pub time_set : Command → Option ℤ
time_set (SetTime time) = Some (nanoseconds time)
time_set _ = None

-- the amount by which the command moves REALTIME against MONOTONIC, in nanoseconds
-- (timekeeping_inject_offset; a leap second, accumulate_nsecs_to_secs); a setting of the time is
-- not counted here
abbrev pub real_amount : Command → ℤ
real_amount (Step by) = nanoseconds by
real_amount (Leap by tai) = by *ℤ pos (10 ^ 9)
real_amount (Resume away) = nanoseconds away
real_amount _ = pos 0

-- whether the command moves REALTIME by a separate amount, and not by a suspension
abbrev pub steps_real : Command → Bool
steps_real (Step by) = true
steps_real (Leap by tai) = true
steps_real _ = false

-- the length of the suspension that the command ends, in nanoseconds
abbrev pub boot_amount : Command → ℤ
boot_amount (Resume away) = nanoseconds away
boot_amount _ = pos 0

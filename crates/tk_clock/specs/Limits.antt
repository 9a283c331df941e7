-- The limits of clocks and commands (include/linux/time64.h, include/linux/ktime.h).
use Rattle.std.specs.Prelude.{ℕ, ◌-◌, ◌*◌, ◌/◌, ◌^◌, ℤ, pos, negsuc, Bool, true, false, not, ◌&&◌, ◌||◌, nat_lt, int_lt, int_le, ◌+ℤ◌, ◌*ℤ◌}
use Rattle.std.specs.Ordering.{int_eq}
use Rattle.tk_counter.specs.Counter.{seconds_end, least_tick, greatest_tick}
use Rattle.tk_clock.specs.declared.timespec.Timespec.{Timespec}
use Rattle.tk_clock.specs.declared.command.Command.{Command}
use Rattle.tk_clock.specs.declared.command.Command.TheVariants.{Update, SetTime, Step, Freq, Tick, Tai, Leap, Suspend, Resume}
use Rattle.tk_clock.specs.declared.clock_id.ClockId.{ClockId}
use Rattle.tk_clock.specs.declared.clock_id.ClockId.TheVariants.{Realtime, Monotonic, Boottime, Tai as TaiClock, RealtimeCoarse, MonotonicCoarse, MonotonicRaw}
use Rattle.tk_clock.specs.Time.{nanoseconds}

-- the end of the clocks, in seconds: 63 bits of nanoseconds can represent this many (KTIME_SEC_MAX)
abbrev pub clock_end : ℕ
clock_end = seconds_end

-- the end of MONOTONIC, in seconds: 30 years of 365 days (TIME_UPTIME_SEC_MAX)
abbrev pub monotonic_end : ℕ
monotonic_end = 946080000

-- a bound of MONOTONIC_RAW, in seconds, while MONOTONIC is below its end: MONOTONIC_RAW runs ahead
-- of MONOTONIC fastest at the least tick and frequency
abbrev pub raw_end : ℕ
raw_end = 1060000000

-- the end of the times that REALTIME may be set to, in seconds: the end of REALTIME minus the 30
-- years of MONOTONIC (TIME_SETTOD_SEC_MAX)
abbrev pub settable_end : ℕ
settable_end = 8277292036

-- the greatest TAI offset, in seconds (MAX_TAI_OFFSET)
abbrev pub greatest_tai : ℕ
greatest_tai = 100000

-- the most entries that a journal lists
abbrev pub listed_most : ℕ
listed_most = 1048576

-- the most entries that a full journal is folded to: half of the most that a journal lists
abbrev pub most_kept : ℕ
most_kept = listed_most / 2

-- the most commands that a journal counts: 2^63 - 1
abbrev pub counted_most : ℕ
counted_most = 2 ^ 63 - 1

-- the limit of a clock, in nanoseconds: a read returns only values below it
abbrev pub limit : ClockId → ℤ
limit Monotonic = pos (monotonic_end * 10 ^ 9)
limit MonotonicCoarse = pos (monotonic_end * 10 ^ 9)
limit Realtime = pos (clock_end * 10 ^ 9)
limit RealtimeCoarse = pos (clock_end * 10 ^ 9)
limit Boottime = pos (clock_end * 10 ^ 9)
limit TaiClock = pos (clock_end * 10 ^ 9)
limit MonotonicRaw = pos (clock_end * 10 ^ 9)

-- whether REALTIME may be set to this time: from 0 s to below settable_end, which leaves it 30
-- years (TIME_SETTOD_SEC_MAX)
unfoldable pub is_settable : Timespec → Bool
is_settable time =
    int_le (pos 0) time.sec && int_lt time.sec (pos settable_end) && nat_lt time.nsec (10 ^ 9)

-- whether a suspension may have this length: from 0 s to below the end of the clocks
unfoldable pub is_suspension : Timespec → Bool
is_suspension away =
    int_le (pos 0) away.sec && int_lt away.sec (pos clock_end) && nat_lt away.nsec (10 ^ 9)

-- whether this is a TAI offset, in seconds (__do_adjtimex, ADJ_TAI)
abbrev pub is_tai_offset : ℤ → Bool
is_tai_offset seconds = int_le (pos 0) seconds && int_le seconds (pos greatest_tai)

-- whether a leap second moves REALTIME by this number of seconds: -1 inserts a second, 1 deletes
-- one (second_overflow)
abbrev pub is_leap : ℤ → Bool
is_leap by = int_eq by (negsuc 0) || int_eq by (pos 1)

-- whether the command's numbers are in range
unfoldable pub is_well_formed : Command → Bool
is_well_formed (SetTime time) = is_settable time
is_well_formed (Step by) = nat_lt by.nsec (10 ^ 9)
is_well_formed (Tick tick) = int_le least_tick tick && int_le tick greatest_tick
is_well_formed (Tai seconds) = is_tai_offset seconds
is_well_formed (Leap by tai) = is_leap by && is_tai_offset tai
is_well_formed (Resume away) = is_suspension away
is_well_formed Update = true
is_well_formed (Freq frequency) = true
is_well_formed Suspend = true

-- whether the command sets REALTIME, steps it or makes a leap second, so that a separate test
-- bounds the new time
abbrev pub sets_real : Command → Bool
sets_real (SetTime time) = true
sets_real (Step by) = true
sets_real (Leap by tai) = true
sets_real _ = false

-- whether the command leaves a clock at its limit or past it, by the clocks' values after the
-- command. If the command sets REALTIME, steps it or makes a leap second, separate tests bound
-- REALTIME and TAI
unfoldable pub is_past_limit : (ClockId → ℤ) → Command → Bool
is_past_limit after cmd =
    not (int_lt (after Monotonic) (limit Monotonic))
    || not (int_lt (after Boottime) (limit Boottime))
    || (not (sets_real cmd)
    && (not (int_lt (after Realtime) (limit Realtime))
    || not (int_lt (after TaiClock) (limit TaiClock))))

-- whether REALTIME, moved by an amount in nanoseconds, is below MONOTONIC, or at settable_end or
-- later, by the clocks' values before the move
abbrev pub is_bad_step : (ClockId → ℤ) → ℤ → Bool
is_bad_step before by =
    let real = before Realtime +ℤ by in
    int_lt real (before Monotonic) || not (int_lt real (pos (settable_end * 10 ^ 9)))

-- whether the command sets REALTIME below MONOTONIC, or moves it to a bad time, by the clocks'
-- values before the command
unfoldable pub is_bad_setting : (ClockId → ℤ) → Command → Bool
is_bad_setting before (SetTime time) = int_lt (nanoseconds time) (before Monotonic)
is_bad_setting before (Step by) = is_bad_step before (nanoseconds by)
is_bad_setting before (Leap by tai) = is_bad_step before (by *ℤ pos (10 ^ 9))
is_bad_setting before _ = false

-- Times as nanoseconds (timespec64_to_ns).
use Rattle.std.specs.Prelude.{ℕ, ◌/◌, ◌%◌, ◌^◌, ℤ, pos, ◌+ℤ◌, ◌*ℤ◌}
use Rattle.tk_clock.specs.declared.timespec.Timespec.{Timespec}

-- the nanoseconds of a time in seconds and nanoseconds
abbrev pub nanoseconds : Timespec → ℤ
nanoseconds time = time.sec *ℤ pos (10 ^ 9) +ℤ pos time.nsec

-- a number of nanoseconds, as seconds and nanoseconds (ns_to_timespec64)
abbrev pub timespec_of : ℕ → Timespec
timespec_of nanos = record { sec = pos (nanos / 10 ^ 9); nsec = nanos % 10 ^ 9 }

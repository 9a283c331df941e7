-- The numbers of a request, clamped to their ranges (process_adjtimex_modes, kernel/time/ntp.c),
-- and the step that it asks for.
use Rattle.std.specs.Prelude.{ℕ, ◌+◌, min, Bool, ◌&&◌, ℤ, pos, ◌*ℤ◌, int_le, unsigned_abs, Option, Some, None, if◌then◌else◌}
use Rattle.std.specs.Int.{int_min, int_max}
use Rattle.tk_counter.specs.Counter.{clamped}
use Rattle.tk_clock.specs.Limits.{greatest_tai}
use Rattle.tk_clock.specs.declared.timespec.Timespec.{Timespec}
use Rattle.tk_ntp.specs.declared.timex.Timex.{Timex}
use Rattle.tk_ntp.specs.Bits.{has, adj_setoffset, adj_nano}

-- a request without modes
abbrev pub no_request : Timex
no_request = record {
  modes = 0;
  offset = pos 0;
  freq = pos 0;
  maxerror = pos 0;
  esterror = pos 0;
  status = 0;
  constant = pos 0;
  tick = pos 0;
  sec = pos 0;
  sub = pos 0;
}

-- the greatest error that is counted, in microseconds (NTP_PHASE_LIMIT)
abbrev pub error_limit : ℕ
error_limit = 16000000

-- the greatest time constant (MAXTC)
abbrev pub greatest_constant : ℕ
greatest_constant = 10

-- 2^-16 ppm of a second, as a length (PPM_SCALE)
abbrev pub frequency_unit : ℕ
frequency_unit = 65536000

-- what each second gains by a given frequency, as a length
abbrev pub gain_of : ℤ → ℤ
gain_of freq = clamped freq *ℤ pos frequency_unit

-- a number, clamped to the range from 0 to a bound
abbrev pub clamped_to : ℕ → ℤ → ℕ
clamped_to most number = unsigned_abs (int_max (pos 0) (int_min number (pos most)))

-- the time constant that a request gives: in microseconds it counts 4 more
abbrev pub constant_of : ℤ → Bool → ℕ
constant_of constant nano =
    if nano then clamped_to greatest_constant constant
    else min (clamped_to greatest_constant constant + 4) greatest_constant

-- the TAI offset that a request gives; one out of range leaves the old one
abbrev pub tai_of : ℤ → ℕ → ℕ
tai_of constant tai =
    if int_le (pos 0) constant && int_le constant (pos greatest_tai) then unsigned_abs constant
    else tai

-- the part of a second in a request, in nanoseconds
abbrev pub nanos_of : Timex → ℕ
nanos_of request =
    if has request.modes adj_nano then unsigned_abs request.sub
    else unsigned_abs (request.sub *ℤ pos 1000)

-- the step of REALTIME that a request asks for (ADJ_SETOFFSET)
abbrev pub step_of : Timex → Option Timespec
step_of request =
    if has request.modes adj_setoffset
    then Some (record { sec = request.sec; nsec = nanos_of request })
    else None

-- The faults of a request, in the order of their tests (timekeeping_validate_timex,
-- kernel/time/timekeeping.c).
use Rattle.std.specs.Prelude.{Bool, not, ◌&&◌, ◌||◌, ℤ, pos, neg_ℤ, int_lt, if◌then◌else◌}
use Rattle.tk_counter.specs.Counter.{least_tick, greatest_tick}
use Rattle.tk_ntp.specs.declared.timex.Timex.{Timex}
use Rattle.tk_ntp.specs.Bits.{has, adj_offset, adj_frequency, adj_setoffset, adj_nano, adj_tick, adj_adjtime}

-- whether a number is below a range or above it
abbrev pub is_outside : ℤ → ℤ → ℤ → Bool
is_outside least greatest number = int_lt number least || int_lt greatest number

-- the old call adjtime, without an offset
abbrev pub has_adjtime_fault : Timex → Bool
has_adjtime_fault request =
    has request.modes adj_adjtime && not (has request.modes adj_offset)

-- a tick out of its range; the old call adjtime takes no tick
abbrev pub has_tick_fault : Timex → Bool
has_tick_fault request =
    not (has request.modes adj_adjtime) && has request.modes adj_tick
    && is_outside least_tick greatest_tick request.tick

-- the greatest part of a second, in the request's unit of time
abbrev pub greatest_sub : Timex → ℤ
greatest_sub request = if has request.modes adj_nano then pos 999999999 else pos 999999

-- a step whose part of a second is negative, or a second or more
abbrev pub has_time_fault : Timex → Bool
has_time_fault request =
    has request.modes adj_setoffset && is_outside (pos 0) (greatest_sub request) request.sub

-- the greatest frequency that a request may give, in 2^-16 ppm: above it the kernel's product
-- overflows (LLONG_MAX / PPM_SCALE)
abbrev pub greatest_given_frequency : ℤ
greatest_given_frequency = pos 140737488355

-- a frequency out of that range
abbrev pub has_frequency_fault : Timex → Bool
has_frequency_fault request =
    has request.modes adj_frequency
    && is_outside (neg_ℤ greatest_given_frequency) greatest_given_frequency request.freq

-- whether a request is refused as it stands
abbrev pub is_faulty : Timex → Bool
is_faulty request =
    has_adjtime_fault request || has_tick_fault request || has_time_fault request
    || has_frequency_fault request

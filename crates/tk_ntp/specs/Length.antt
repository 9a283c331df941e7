-- Lengths, in units of 2^-32 nanoseconds, and the length of a second without phase
-- (kernel/time/ntp.c).
use Rattle.std.specs.Prelude.{ℕ, ◌*◌, ◌/◌, ◌^◌, ℤ, pos, ◌+ℤ◌, int_div, unsigned_abs}

-- a nanosecond
abbrev pub one : ℕ
one = 2 ^ 32

-- the most that a frequency makes a second gain or lose: 500 ppm of it (MAXFREQ_SCALED)
abbrev pub max_frequency : ℕ
max_frequency = 500000 * one

-- the longest phase: half a second (MAXPHASE)
abbrev pub max_phase : ℕ
max_phase = 500000000 * one

-- a quotient, rounded toward zero (div_s64)
abbrev pub toward_zero : ℤ → ℕ → ℤ
toward_zero number divisor = int_div number (pos divisor)

-- the length of a second at a tick in microseconds and a frequency: 100 ticks to the usual second
abbrev pub second_of : ℕ → ℤ → ℤ
second_of tick frequency = pos (tick * (100000 * one)) +ℤ frequency

-- the length of 1/hz of a second, rounded down (ntp_update_frequency)
abbrev pub base_of : ℕ → ℕ → ℤ → ℕ
base_of hz tick frequency = unsigned_abs (second_of tick frequency) / hz

-- a bound of the length of a second without phase
abbrev pub longest_second : ℕ
longest_second = 4727000000000000000

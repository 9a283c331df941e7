-- A free-running counter (struct clocksource, include/linux/clocksource.h), and the numbers that
-- follow from its description.
use Rattle.std.specs.Prelude.{ℕ, ◌+◌, ◌-◌, ◌*◌, ◌/◌, ◌%◌, ◌^◌, ◌<◌, ◌≤◌, min, ℤ, pos, neg_ℤ, ◌+ℤ◌, ◌*ℤ◌, unsigned_abs}
use Rattle.std.specs.Int.{int_min, int_max}

-- a counter's description: a reading has `bits` bits, and a cycle lasts mult / 2^shift nanoseconds
pub record Counter : Type 0 where
  pub bits : ℕ
  pub mult : ℕ
  pub shift : ℕ

-- the greatest reading, 2^bits - 1
abbrev pub mask : Counter → ℕ
mask counter = 2 ^ counter.bits - 1

-- the longest gap that leads forward, in cycles: half the mask, rounded down (clocksource_delta)
abbrev pub half : Counter → ℕ
half counter = mask counter / 2

-- the greatest amount by which the multiplier may exceed mult: 11 percent of mult, rounded down
-- (clocksource_max_adjustment)
abbrev pub max_adjustment : Counter → ℕ
max_adjustment counter = counter.mult * 11 / 100

-- the greatest multiplier that is ever in force
abbrev pub fastest : Counter → ℕ
fastest counter = counter.mult + max_adjustment counter

-- one second, in units of 2^-shift nanoseconds
abbrev pub second : Counter → ℕ
second counter = 10 ^ 9 * 2 ^ counter.shift

-- the most cycles whose units fit in 64 bits at the fastest multiplier, and at most the mask
-- (clocks_calc_max_nsecs)
abbrev pub max_cycles : Counter → ℕ
max_cycles counter = min ((2 ^ 64 - 1) / fastest counter) (mask counter)

-- the most cycles whose units fit in 63 bits at the fastest multiplier, and at most half the mask
abbrev pub fast_span : Counter → ℕ
fast_span counter = min ((2 ^ 63 - 1) / fastest counter) (half counter)

-- the gap from one reading to the next, in cycles, modulo 2^bits
abbrev pub gap : Counter → ℕ → ℕ → ℕ
gap counter from to = (to + (2 ^ counter.bits - from % 2 ^ counter.bits)) % 2 ^ counter.bits

-- the ranges of a description's numbers
pub record IsCounter (counter : Counter) : Type 0 where
  pub bits_low : 8 ≤ counter.bits
  pub bits_high : counter.bits ≤ 64
  pub shift_high : counter.shift ≤ 32
  pub mult_low : 256 ≤ counter.mult
  pub adjustable : fastest counter < 2 ^ 32

-- the end of whole seconds: 63 bits of nanoseconds can represent this many (KTIME_SEC_MAX)
abbrev pub seconds_end : ℕ
seconds_end = 9223372036

-- the greatest frequency that takes effect, in 2^-16 ppm: 500 ppm (adjtimex(2), MAXFREQ_SCALED)
abbrev pub greatest_frequency : ℤ
greatest_frequency = pos 32768000

-- the usual tick, in microseconds: a hundredth of a second (USER_TICK_USEC)
abbrev pub usual_tick : ℤ
usual_tick = pos 10000

-- the least tick, in microseconds: a tenth below the usual one (adjtimex(2))
abbrev pub least_tick : ℤ
least_tick = pos 9000

-- the greatest tick, in microseconds: a tenth above the usual one (adjtimex(2))
abbrev pub greatest_tick : ℤ
greatest_tick = pos 11000

-- the frequency that takes effect, in 2^-16 ppm: clamped to the greatest one in either direction
-- (adjtimex(2))
abbrev pub clamped : ℤ → ℤ
clamped frequency = int_max (neg_ℤ greatest_frequency) (int_min frequency greatest_frequency)

-- the clock's rate at a frequency in 2^-16 ppm and a tick in microseconds; the usual rate is
-- 65,536,000,000
abbrev pub rate : ℤ → ℤ → ℕ
rate frequency tick = unsigned_abs (tick *ℤ pos 6553600 +ℤ clamped frequency)

-- the multiplier: the units of 2^-shift nanoseconds that a cycle adds at a frequency in 2^-16 ppm
-- and a tick in microseconds (adjtimex(2))
abbrev pub multiplier : Counter → ℤ → ℤ → ℕ
multiplier counter frequency tick = counter.mult * rate frequency tick / 65536000000

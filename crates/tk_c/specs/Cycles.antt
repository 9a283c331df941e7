-- The cycles of a counter as a time, at the counter's own rate.
use Rattle.std.specs.Prelude.{ℕ, ◌*◌, ◌/◌, ◌^◌, ◌-◌, min}
use Rattle.tk_counter.specs.Counter.{Counter}

-- the nanoseconds of a number of cycles, rounded down, or 2^64 - 1 if they are more
-- (clocksource_cyc2ns, include/linux/clocksource.h)
abbrev pub nanos_of_cycles : Counter → ℕ → ℕ
nanos_of_cycles counter cycles =
    min (cycles * counter.mult / 2 ^ counter.shift) (2 ^ 64 - 1)

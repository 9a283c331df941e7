-- The running state: the state that a journal leaves, and the effect of a command on it
-- (kernel/time/timekeeping.c).
use Rattle.std.specs.Prelude.{ℕ, ◌+◌, ◌*◌, ◌/◌, ◌^◌, ℤ, pos, ◌+ℤ◌, ◌-ℤ◌, ◌*ℤ◌, Bool, true, false}
use Rattle.tk_counter.specs.Counter.{Counter, gap, multiplier}
use Rattle.tk_clock.specs.declared.command.Command.{Command}
use Rattle.tk_clock.specs.declared.command.Command.TheVariants.{Update, SetTime, Step, Freq, Tick, Tai, Leap, Suspend, Resume}
use Rattle.tk_clock.specs.declared.clock_id.ClockId.{ClockId}
use Rattle.tk_clock.specs.declared.clock_id.ClockId.TheVariants.{Realtime, Monotonic, Boottime, Tai as TaiClock, RealtimeCoarse, MonotonicCoarse, MonotonicRaw}
use Rattle.tk_clock.specs.Time.{nanoseconds}
use Rattle.tk_clock.specs.Journal.{Journal, last_reading, is_asleep}
use Rattle.tk_clock.specs.Monotonic.{monotonic_units, current_multiplier, current_frequency, current_tick, cycles_since}
use Rattle.tk_clock.specs.Clocks.{real_offset, boot_offset, tai_offset, raw_units}

-- the numbers needed to read the clocks, like the kernel's struct tk_read_base
pub record ReadBase : Type 0 where
  pub counter : Counter
  -- the last reading, and the multiplier after it: the units that a cycle adds
  pub last : ℕ
  pub mult : ℕ
  -- MONOTONIC and MONOTONIC_RAW at the last reading, in units of 2^-shift nanoseconds
  pub amount : ℕ
  pub raw_amount : ℕ
  -- REALTIME and BOOTTIME, both minus MONOTONIC, in nanoseconds
  pub real_offset : ℤ
  pub boot_offset : ℤ
  -- TAI minus REALTIME, in seconds
  pub tai : ℤ
  pub asleep : Bool

-- the read base, and the frequency and tick in force, which no clock's value needs
pub record State : Type 0 where
  pub base : ReadBase
  pub frequency : ℤ
  pub tick : ℤ

-- the read base that a journal leaves
abbrev pub base_of : Journal → ReadBase
base_of journal = record {
  counter = journal.opening.counter;
  last = last_reading journal;
  mult = current_multiplier journal;
  amount = monotonic_units journal;
  raw_amount = raw_units journal;
  real_offset = real_offset journal;
  boot_offset = boot_offset journal;
  tai = tai_offset journal;
  asleep = is_asleep journal;
}

-- the state that a journal leaves
abbrev pub state_of : Journal → State
state_of journal = record {
  base = base_of journal;
  frequency = current_frequency journal;
  tick = current_tick journal;
}

-- the cycles that a base counts from its last reading to another
abbrev pub base_cycles : ReadBase → ℕ → ℕ
base_cycles base reading = cycles_since base.counter base.asleep base.last reading

-- MONOTONIC of a base at a reading, in nanoseconds
abbrev pub base_monotonic : ReadBase → ℕ → ℕ
base_monotonic base reading =
    (base.amount + base_cycles base reading * base.mult) / 2 ^ base.counter.shift

-- MONOTONIC_RAW of a base at a reading, in nanoseconds
abbrev pub base_raw : ReadBase → ℕ → ℕ
base_raw base reading =
    (base.raw_amount + base_cycles base reading * base.counter.mult) / 2 ^ base.counter.shift

-- the value of a clock of a base at a reading, in nanoseconds (clock_gettime(2))
abbrev pub base_value : ReadBase → ClockId → ℕ → ℤ
base_value base Monotonic reading = pos (base_monotonic base reading)
base_value base Realtime reading = pos (base_monotonic base reading) +ℤ base.real_offset
base_value base Boottime reading = pos (base_monotonic base reading) +ℤ base.boot_offset
base_value base TaiClock reading =
    pos (base_monotonic base reading) +ℤ base.real_offset +ℤ base.tai *ℤ pos (10 ^ 9)
base_value base RealtimeCoarse reading = pos (base_monotonic base base.last) +ℤ base.real_offset
base_value base MonotonicCoarse reading = pos (base_monotonic base base.last)
base_value base MonotonicRaw reading = pos (base_raw base reading)

-- the base with its amounts forwarded to a reading (timekeeping_forward_now)
abbrev pub forwarded : ReadBase → ℕ → ReadBase
forwarded base reading =
    let cycles = gap base.counter base.last reading in
    record base {
      amount = base.amount + cycles * base.mult;
      raw_amount = base.raw_amount + cycles * base.counter.mult;
      last = reading;
    }

-- the effect of a command at a reading on the clocks
abbrev pub effect : State → ℕ → Command → State
effect state reading Update = record state { base = forwarded state.base reading }
effect state reading (SetTime time) =
    let now = forwarded state.base reading in
    record state {
      base =
          record now { real_offset = nanoseconds time -ℤ pos (now.amount / 2 ^ now.counter.shift) };
    }
effect state reading (Step by) =
    let now = forwarded state.base reading in
    record state { base = record now { real_offset = now.real_offset +ℤ nanoseconds by } }
effect state reading (Freq frequency) =
    let now = forwarded state.base reading in
    record state {
      base = record now { mult = multiplier now.counter frequency state.tick };
      frequency = frequency;
    }
effect state reading (Tick tick) =
    let now = forwarded state.base reading in
    record state {
      base = record now { mult = multiplier now.counter state.frequency tick };
      tick = tick;
    }
effect state reading (Tai seconds) =
    let now = forwarded state.base reading in record state { base = record now { tai = seconds } }
effect state reading (Leap by tai) =
    let now = forwarded state.base reading in
    record state {
      base = record now { real_offset = now.real_offset +ℤ by *ℤ pos (10 ^ 9); tai = tai };
    }
effect state reading Suspend =
    let now = forwarded state.base reading in record state { base = record now { asleep = true } }
effect state reading (Resume away) =
    let base = state.base in
    record state {
      base = record base {
        last = reading;
        real_offset = base.real_offset +ℤ nanoseconds away;
        boot_offset = base.boot_offset +ℤ nanoseconds away;
        asleep = false;
      };
    }

-- A clock after the last reading: its amount there, and the amount that a cycle adds.
use Rattle.std.specs.Prelude.{◌≡◌, ◌<◌, ◌≤◌, ℕ, ◌+◌, ◌*◌, ◌/◌, ◌^◌, ℤ, pos, ◌+ℤ◌, ◌*ℤ◌, Bool, true, false, ◌||◌, if◌then◌else◌}
use Rattle.tk_clock.specs.declared.clock_id.ClockId.{ClockId}
use Rattle.tk_clock.specs.declared.clock_id.ClockId.TheVariants.{Realtime, Monotonic, Boottime, Tai, RealtimeCoarse, MonotonicCoarse, MonotonicRaw}
use Rattle.tk_counter.specs.Counter.{Counter, second}
use Rattle.tk_clock.specs.declared.origin.Origin.{Origin}
use Rattle.tk_clock.specs.Limits.{limit, clock_end, raw_end}
use Rattle.tk_clock.specs.State.{ReadBase}

-- whether a clock changes only at commands
abbrev pub is_coarse : ClockId → Bool
is_coarse RealtimeCoarse = true
is_coarse MonotonicCoarse = true
is_coarse _ = false

-- whether a clock runs at the counter's own rate
abbrev pub is_raw : ClockId → Bool
is_raw MonotonicRaw = true
is_raw _ = false

-- the units of 2^-shift nanoseconds that a clock counts up to the last reading, without its offset
abbrev pub units_at_last : ReadBase → ClockId → ℕ
units_at_last base clock = if is_raw clock then base.raw_amount else base.amount

-- the units that a cycle adds to a clock that runs
abbrev pub running_mult : ReadBase → ClockId → ℕ
running_mult base clock = if is_raw clock then base.counter.mult else base.mult

-- the units that a cycle adds to a clock: 0 if the clock doesn't run
abbrev pub mult_of : ReadBase → ClockId → ℕ
mult_of base clock = if base.asleep || is_coarse clock then 0 else running_mult base clock

-- the offset of a clock from the time that it counts, in nanoseconds
abbrev pub offset_of : ReadBase → ClockId → ℤ
offset_of base Monotonic = pos 0
offset_of base Realtime = base.real_offset
offset_of base Boottime = base.boot_offset
offset_of base Tai = base.real_offset +ℤ base.tai *ℤ pos (10 ^ 9)
offset_of base RealtimeCoarse = base.real_offset
offset_of base MonotonicCoarse = pos 0
offset_of base MonotonicRaw = pos 0

-- the value of a clock a number of cycles after the last reading, in nanoseconds
abbrev pub value_after : ReadBase → ClockId → ℕ → ℤ
value_after base clock cycles =
    pos ((units_at_last base clock + cycles * mult_of base clock) / 2 ^ base.counter.shift)
    +ℤ offset_of base clock

-- the base as it would be while awake
abbrev pub awake : ReadBase → ReadBase
awake base = record base { asleep = false }

-- the value of a line a number of cycles after its beginning, in nanoseconds
abbrev pub line_after : Counter → Origin → ℕ → ℕ
line_after counter origin cycles =
    (origin.sec * second counter + origin.frac + cycles * origin.mult) / 2 ^ counter.shift
    + origin.offset

-- a clock's line after the last reading, and its limit
pub record IsOrigin (base : ReadBase) (clock : ClockId) (origin : Origin) : Type 0 where
  pub units : origin.sec * second base.counter + origin.frac ≡ units_at_last base clock
  pub sec_low : origin.sec < raw_end
  pub frac_low : origin.frac < second base.counter
  pub slope : origin.mult ≡ mult_of base clock
  pub start : pos origin.offset ≡ offset_of base clock
  pub start_low : origin.offset < clock_end * 10 ^ 9
  pub ends : pos origin.limit ≡ limit clock
  pub ends_low : origin.limit ≤ clock_end * 10 ^ 9

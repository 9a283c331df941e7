-- A time that a clock reaches only after the readings that are searched.
use Rattle.std.specs.Prelude.{ℕ, ◌<◌, ℤ, ◌<ℤ◌}
use Rattle.tk_clock.specs.declared.clock_id.ClockId.{ClockId}
use Rattle.tk_clock.specs.Limits.{limit}
use Rattle.tk_clock.specs.Origin.{mult_of}
use Rattle.tk_clock.specs.Reach.{IsAhead, IsBefore}
use Rattle.tk_clock.specs.State.{ReadBase}

-- the clock counts, the time is below its limit, and a read at every reading ahead returns an
-- earlier time
pub record IsFurther (base : ReadBase) (clock : ClockId) (nanos : ℤ) : Type 0 where
  pub counts : 0 < mult_of base clock
  pub below : nanos <ℤ limit clock
  pub early : (reading : ℕ) → IsAhead base reading → IsBefore base clock nanos reading

-- When a clock reaches a time: the first reading at which a read returns that time or a later one.
use Rattle.std.specs.Prelude.{◌≡◌, ℕ, ◌<◌, ◌≤◌, ℤ, ◌<ℤ◌, ◌≤ℤ◌, Option, Some, None}
use Rattle.tk_counter.specs.Counter.{mask, half, gap}
use Rattle.tk_clock.specs.declared.clock_id.ClockId.{ClockId}
use Rattle.tk_clock.specs.State.{ReadBase, base_value}
use Rattle.tk_clock.specs.Refusal.{read_refusal}

-- the cycles from the last reading to another
abbrev pub distance : ReadBase → ℕ → ℕ
distance base reading = gap base.counter base.last reading

-- the reading is the last one, or at most half the counter's range after it
abbrev pub IsAhead : ReadBase → ℕ → Type 0
IsAhead base reading = (reading ≤ mask base.counter) × (distance base reading ≤ half base.counter)

-- a read at this reading returns the time, in nanoseconds, or a later one
abbrev pub HasReached : ReadBase → ClockId → ℤ → ℕ → Type 0
HasReached base clock nanos reading =
    (read_refusal base clock reading ≡ None) × (nanos ≤ℤ base_value base clock reading)

-- a read at this reading returns an earlier time
abbrev pub IsBefore : ReadBase → ClockId → ℤ → ℕ → Type 0
IsBefore base clock nanos reading =
    (read_refusal base clock reading ≡ None) × (base_value base clock reading <ℤ nanos)

-- the first reading ahead at which the clock has reached the time: at all nearer ones, a read
-- returns an earlier time
pub record IsFirstReached (base : ReadBase) (clock : ClockId) (nanos : ℤ)
    (reading : ℕ) : Type 0 where
  pub ahead : IsAhead base reading
  pub reached : HasReached base clock nanos reading
  pub nearer : (other : ℕ) → IsAhead base other → distance base other < distance base reading →
      IsBefore base clock nanos other

-- no read at a reading ahead returns the time or a later one
abbrev pub IsNeverReached : ReadBase → ClockId → ℤ → Type 0
IsNeverReached base clock nanos =
    (reading : ℕ) → IsAhead base reading → ¬ HasReached base clock nanos reading

-- a reading ahead at which a read returns exactly the time
abbrev pub IsReadAt : ReadBase → ClockId → ℤ → ℕ → Type 0
IsReadAt base clock nanos reading =
    IsAhead base reading × (read_refusal base clock reading ≡ None)
    × (base_value base clock reading ≡ nanos)

-- a reading that gives the time again, and is no further ahead than another
abbrev pub GivesAgain : ReadBase → ClockId → ℤ → ℕ → Option ℕ → Type 0
GivesAgain base clock nanos reading None = ⊥
GivesAgain base clock nanos reading (Some first) =
    IsReadAt base clock nanos first × (distance base first ≤ distance base reading)

-- A change of counter: the clocks go on over another counter (change_clocksource and
-- tk_setup_internals, kernel/time/timekeeping.c).
use Rattle.std.specs.Prelude.{◌≡◌, ◌⊎◌, ℕ, ◌+◌, ◌*◌, ◌/◌, ◌^◌, ◌<◌, ◌≤◌, Bool, true, false, nat_lt, nat_le, Option, Some, None, if◌then◌else◌}
use Rattle.tk_counter.specs.Counter.{Counter, mask, half, gap, multiplier}
use Rattle.tk_clock.specs.declared.clock_id.ClockId.{ClockId}
use Rattle.tk_clock.specs.declared.command.Command.TheVariants.{Update}
use Rattle.tk_clock.specs.declared.refusal.Refusal.{Refusal}
use Rattle.tk_clock.specs.declared.refusal.Refusal.TheVariants.{Invalid, Range}
use Rattle.tk_clock.specs.State.{ReadBase, State, base_monotonic, base_value, forwarded}
use Rattle.tk_clock.specs.Running.{slowest}
use Rattle.tk_clock.specs.Origin.{is_coarse}
use Rattle.tk_clock.specs.Refusal.{first_of, state_refusal}

-- an amount in units of 2^-to nanoseconds, from its units of 2^-from nanoseconds, rounded down
abbrev pub rescaled : ℕ → ℕ → ℕ → ℕ
rescaled from to units = units * 2 ^ to / 2 ^ from

-- the clocks at the change: forwarded to a reading of their counter, unless they are asleep
-- (timekeeping_forward_now)
abbrev pub brought_forward : ReadBase → ℕ → ReadBase
brought_forward base reading = if base.asleep then base else forwarded base reading

-- a base that goes on over another counter, from that counter's reading `first` and with this
-- multiplier (tk_setup_internals)
abbrev pub base_over : ReadBase → Counter → ℕ → ℕ → ReadBase
base_over base counter first mult =
    record base {
      counter = counter;
      last = first;
      mult = mult;
      amount = rescaled base.counter.shift counter.shift base.amount;
      raw_amount = rescaled base.counter.shift counter.shift base.raw_amount;
    }

-- a state that goes on over another counter: the multiplier follows from the new counter, and from
-- the frequency and tick in force
abbrev pub state_over : State → Counter → ℕ → State
state_over state counter first =
    record state {
      base = base_over state.base counter first (multiplier counter state.frequency state.tick);
    }

-- the state after a change: from a reading of the present counter to a reading of another one
abbrev pub changed : State → ℕ → Counter → ℕ → State
changed state reading counter first =
    state_over (record state { base = brought_forward state.base reading }) counter first

-- the refusal of a reading above the mask of its counter
abbrev pub reading_refusal : Counter → ℕ → Option Refusal
reading_refusal counter reading = if nat_lt (mask counter) reading then Some Invalid else None

-- why the clocks can't be brought forward to a reading: while awake, the first test that an update
-- fails; while asleep, the reading only has to be in its range
abbrev pub forward_refusal : State → ℕ → Option Refusal
forward_refusal state reading =
    if state.base.asleep then reading_refusal state.base.counter reading
    else state_refusal state reading Update

-- whether MONOTONIC_RAW is no further ahead of MONOTONIC than the counter's slowest rate allows
abbrev pub is_rated : ReadBase → Bool
is_rated base = nat_le (base.raw_amount * slowest base.counter) (base.amount * base.counter.mult)

-- the refusal of clocks whose MONOTONIC_RAW is further ahead
abbrev pub rate_refusal : ReadBase → Option Refusal
rate_refusal base = if is_rated base then None else Some Range

-- why a change is refused: the first test that fails
abbrev pub change_refusal : State → ℕ → Counter → ℕ → Option Refusal
change_refusal state reading counter first =
    first_of (reading_refusal counter first)
    (first_of (forward_refusal state reading)
    (rate_refusal (changed state reading counter first).base))

-- the clocks keep their times, in nanoseconds, from a reading of the old counter to one of the new
pub record KeepsTimes (before : ReadBase) (reading : ℕ) (after : ReadBase)
    (first : ℕ) : Type 0 where
  -- each clock that isn't coarse has the time that it had before the change
  pub read : (clock : ClockId) → is_coarse clock ≡ false →
      base_value after clock first ≡ base_value before clock reading
  -- each clock, so the coarse ones too, has the time to which it was brought forward
  pub forward : (clock : ClockId) →
      base_value after clock first ≡ base_value (brought_forward before reading) clock reading

-- a reading is not after the change: no further from the last command than the change's reading.
-- No reading is after it while the clocks are asleep, nor a reading that is behind the last command
abbrev pub IsUpTo : ReadBase → ℕ → ℕ → Type 0
IsUpTo base change reading =
    (base.asleep ≡ true) ⊎ (half base.counter < gap base.counter base.last reading)
    ⊎ (gap base.counter base.last reading ≤ gap base.counter base.last change)

-- MONOTONIC at a reading of the old counter up to the change is at most MONOTONIC at any reading of
-- the new counter
abbrev pub NeverFallsOver : ReadBase → ℕ → ReadBase → Type 0
NeverFallsOver before change after =
    (reading reading' : ℕ) → IsUpTo before change reading →
    base_monotonic before reading ≤ base_monotonic after reading'

-- an amount of `before` units of 2^-from nanoseconds is kept as `after` units of 2^-to nanoseconds:
-- exactly, if the new shift is not smaller; otherwise less than one new unit is lost, and no whole
-- nanosecond
pub record IsKeptAmount (from to before after : ℕ) : Type 0 where
  pub nanos : after / 2 ^ to ≡ before / 2 ^ from
  pub exact : from ≤ to → after * 2 ^ from ≡ before * 2 ^ to
  pub most : after * 2 ^ from ≤ before * 2 ^ to
  pub lost : before * 2 ^ to < (after + 1) * 2 ^ from

-- both amounts that the clocks count, brought forward to a reading, are kept over another counter
pub record KeepsAmounts (before : ReadBase) (reading : ℕ) (after : ReadBase) : Type 0 where
  pub monotonic : IsKeptAmount before.counter.shift after.counter.shift
      (brought_forward before reading).amount after.amount
  pub raw : IsKeptAmount before.counter.shift after.counter.shift
      (brought_forward before reading).raw_amount after.raw_amount

-- the frequency as it was set, the tick, the offsets and the sleep stay
pub record KeepsSettings (before after : State) : Type 0 where
  pub frequency : after.frequency ≡ before.frequency
  pub tick : after.tick ≡ before.tick
  pub real_offset : after.base.real_offset ≡ before.base.real_offset
  pub boot_offset : after.base.boot_offset ≡ before.base.boot_offset
  pub tai : after.base.tai ≡ before.base.tai
  pub asleep : after.base.asleep ≡ before.base.asleep

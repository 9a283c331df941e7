-- The properties of every state of running clocks.
use Rattle.std.specs.Prelude.{◌≡◌, ℕ, ◌+◌, ◌*◌, ◌/◌, ◌%◌, ◌^◌, ◌<◌, ◌≤◌, ◌⊎◌, ℤ, pos, neg_ℤ, ◌<ℤ◌, ◌≤ℤ◌, unsigned_abs}
use Rattle.tk_counter.specs.Counter.{Counter, IsCounter, gap, mask, fastest, second, multiplier, greatest_frequency, least_tick, greatest_tick}
use Rattle.tk_clock.specs.declared.amount.Amount.{Amount}
use Rattle.tk_clock.specs.declared.clock_id.ClockId.TheVariants.{Realtime, Boottime, Tai}
use Rattle.tk_clock.specs.Amount.{amount_of}
use Rattle.tk_clock.specs.State.{ReadBase, State, base_value, forwarded}
use Rattle.tk_clock.specs.Limits.{limit, monotonic_end, raw_end, greatest_tai}

-- the numbers of a read base are in their ranges
pub record IsReadBase (counter : Counter) (last mult : ℕ) (monotonic raw : Amount)
    (tai : ℕ) : Type 0 where
  pub described : IsCounter counter
  pub last_low : last ≤ mask counter
  pub mult_some : 1 ≤ mult
  pub mult_low : mult ≤ fastest counter
  pub frac_low : monotonic.frac < second counter
  pub sec_low : monotonic.sec < monotonic_end
  pub raw_frac_low : raw.frac < second counter
  pub raw_sec_low : raw.sec < raw_end
  pub tai_low : tai ≤ greatest_tai

-- the least multiplier that is ever in force
abbrev pub slowest : Counter → ℕ
slowest counter = multiplier counter (neg_ℤ greatest_frequency) least_tick

-- MONOTONIC_RAW is at most MONOTONIC times the counter's own multiplier, divided by the slowest one
abbrev pub IsRated : ReadBase → Type 0
IsRated base = base.raw_amount * slowest base.counter ≤ base.amount * base.counter.mult

-- the cycles and the part of an amount below a second last two seconds or more
abbrev pub IsTwoSeconds : Counter → ℕ → ℕ → ℕ → Type 0
IsTwoSeconds counter amount cycles mult =
    2 * second counter ≤ amount % second counter + cycles * mult

-- why the short computation doesn't apply to a base and a reading: the cycles don't fit in 31 bits,
-- MONOTONIC or MONOTONIC_RAW gains two whole seconds, or MONOTONIC would be at its limit
abbrev pub IsFar : ReadBase → ℕ → Type 0
IsFar base reading =
    let cycles = gap base.counter base.last reading in
    let after = forwarded base reading in
    (2 ^ 31 ≤ cycles)
    ⊎ IsTwoSeconds base.counter base.amount cycles base.mult
    ⊎ IsTwoSeconds base.counter base.raw_amount cycles base.counter.mult
    ⊎ (monotonic_end * 10 ^ 9 ≤ after.amount / 2 ^ after.counter.shift)

-- REALTIME, BOOTTIME and TAI are below their limits at the last reading
pub record IsWithin (base : ReadBase) : Type 0 where
  pub real_low : base_value base Realtime base.last <ℤ limit Realtime
  pub boot_low : base_value base Boottime base.last <ℤ limit Boottime
  pub tai_low : base_value base Tai base.last <ℤ limit Tai

-- the clocks run: the multiplier follows from the frequency and tick, and no clock is at its limit
pub record IsRunning (base : ReadBase) (frequency tick : ℤ) : Type 0 where
  pub steered : base.mult ≡ multiplier base.counter frequency tick
  pub frequency_low : neg_ℤ (pos (2 ^ 63)) ≤ℤ frequency
  pub frequency_high : frequency <ℤ pos (2 ^ 63)
  pub tick_low : least_tick ≤ℤ tick
  pub tick_high : tick ≤ℤ greatest_tick
  pub rated : IsRated base
  pub within : IsWithin base

-- a read base that clocks can have: its numbers are in their ranges, and no offset is negative
pub record IsInRange (base : ReadBase) : Type 0 where
  pub numbers : IsReadBase base.counter base.last base.mult (amount_of base.counter base.amount)
      (amount_of base.counter base.raw_amount) (unsigned_abs base.tai)
  pub real_offset : pos 0 ≤ℤ base.real_offset
  pub boot_offset : pos 0 ≤ℤ base.boot_offset
  pub tai : pos 0 ≤ℤ base.tai

-- a state that clocks can have
pub record AreClocks (state : State) : Type 0 where
  pub in_range : IsInRange state.base
  pub running : IsRunning state.base state.frequency state.tick

-- The seconds that begin as steered clocks are advanced: what they give of an offset, and TAI.
use Rattle.std.specs.Prelude.{◌≡◌, ℕ, length, ℤ, pos, ◌+ℤ◌, ◌-ℤ◌, ◌<ℤ◌}
use Rattle.std.specs.Int.{int_div_euclid}
use Rattle.tk_clock.specs.declared.clock_id.ClockId.TheVariants.{Tai as TaiClock}
use Rattle.tk_clock.specs.Limits.{greatest_tai}
use Rattle.tk_clock.specs.State.{State, base_value}
use Rattle.tk_ntp.specs.Advance.{AreEach, IsAdvanced, IsAdvancedBy, second_begun_at, seconds_by}
use Rattle.tk_ntp.specs.Given.{after as after_seconds, given as given_of_offset}
use Rattle.tk_ntp.specs.SteeredClock.{SteeredClock}

-- a number that grows by 1 as each second begins, also by a leap, which moves REALTIME: MONOTONIC as
-- the next one begins, in seconds, rounded up
abbrev pub second_number : SteeredClock → ℤ
second_number steered =
    pos steered.next -ℤ int_div_euclid steered.clock.base.real_offset (pos 1000000000)

-- the discipline is the one after the seconds that begin, and no part of its offset is lost: what
-- they gave of it, and what is left, make the offset
pub record IsOffsetKeptBy (starts : ℕ → SteeredClock → SteeredClock) (reading : ℕ)
    (before after : SteeredClock) : Type 0 where
  pub begun : IsAdvancedBy starts reading before after
  pub ntp :
      after.steering.ntp
      ≡ after_seconds (seconds_by starts reading before after begun) before.steering.ntp
  pub kept :
      given_of_offset (seconds_by starts reading before after begun) before.steering.ntp
      +ℤ after.steering.ntp.offset
      ≡ before.steering.ntp.offset

-- the number of the next second grows by 1 with each of them
pub record IsNumberedBy (starts : ℕ → SteeredClock → SteeredClock) (reading : ℕ)
    (before after : SteeredClock) : Type 0 where
  pub begun : IsAdvancedBy starts reading before after
  pub number :
      second_number after
      ≡ second_number before +ℤ pos (length (seconds_by starts reading before after begun))

-- the same if each second begins at its own reading
abbrev pub IsOffsetKept : ℕ → SteeredClock → SteeredClock → Type 0
IsOffsetKept reading before after = IsOffsetKeptBy second_begun_at reading before after

abbrev pub IsNumbered : ℕ → SteeredClock → SteeredClock → Type 0
IsNumbered reading before after = IsNumberedBy second_begun_at reading before after

-- the TAI offset is neither 0 nor at its limit, so a leap can change it in either direction
abbrev pub IsTaiInside : State → Type 0
IsTaiInside clock = (pos 0 <ℤ clock.base.tai) × (clock.base.tai <ℤ pos greatest_tai)

-- TAI at a reading is the same in two states
abbrev pub IsTaiSame : ℕ → State → State → Type 0
IsTaiSame reading before after =
    base_value after.base TaiClock reading ≡ base_value before.base TaiClock reading

-- TAI runs on as seconds begin: at the reading of each, it is the same before and after its leap and
-- its rate
pub record IsTaiKept (reading : ℕ) (before after : SteeredClock) : Type 0 where
  pub begun : IsAdvanced reading before after
  pub same :
      AreEach second_begun_at (λ at steered. IsTaiInside steered.clock →
      IsTaiSame at steered.clock (second_begun_at at steered).clock) reading before after begun

-- What clocks were asked for is what they were given: the accounts of the lag add up over every
-- call.
use Rattle.std.specs.Prelude.{◌≡◌, ℕ, ◌+◌, ◌*◌, ◌≤◌, ◌⊎◌, Bool, true, false, ◌&&◌, Option, Some, None, is_none, ℤ, pos, ◌+ℤ◌, ◌-ℤ◌, ◌*ℤ◌, unsigned_abs}
use Rattle.tk_counter.specs.Counter.{gap, half}
use Rattle.tk_clock.specs.declared.clock_id.ClockId.TheVariants.{Realtime}
use Rattle.tk_clock.specs.declared.command.Command.{Command}
use Rattle.tk_clock.specs.declared.command.Command.TheVariants.{Step}
use Rattle.tk_clock.specs.declared.timespec.Timespec.{Timespec}
use Rattle.tk_clock.specs.Limits.{sets_real}
use Rattle.tk_clock.specs.Reach.{IsAhead, HasReached, distance}
use Rattle.tk_clock.specs.Refusal.{state_refusal}
use Rattle.tk_clock.specs.State.{State}
use Rattle.tk_clock.specs.Time.{nanoseconds}
use Rattle.tk_ntp.specs.Advance.{AreEach, IsAdvanced, second_time, second_begun_at, sum_over, with_next_second}
use Rattle.tk_ntp.specs.Lag.{greatest_lag, short_of}
use Rattle.tk_ntp.specs.Ntp.{second_length}
use Rattle.tk_ntp.specs.Rate.{nominal}
use Rattle.tk_ntp.specs.SteeredClock.{SteeredClock}

-- MONOTONIC of clocks that are awake at a reading, in units of 2^-shift nanoseconds
abbrev pub units_at : ℕ → State → ℕ
units_at reading clock =
    let base = clock.base in base.amount + gap base.counter base.last reading * base.mult

-- what the clocks were asked for up to the last account: MONOTONIC there, in the lag's units, plus
-- the lag
abbrev pub owed : SteeredClock → ℤ
owed steered =
    pos (units_at steered.last_account steered.clock) *ℤ pos nominal +ℤ steered.steering.lag

-- the cycles since the last account
abbrev pub cycles_to : ℕ → SteeredClock → ℕ
cycles_to reading steered = gap steered.clock.base.counter steered.last_account reading

-- what these cycles should add at the length of the present second
abbrev pub asked_to : ℕ → SteeredClock → ℤ
asked_to reading steered =
    pos (cycles_to reading steered)
    *ℤ (pos steered.clock.base.counter.mult *ℤ second_length steered.steering.ntp)

-- the lag at a reading, if it had no bound
abbrev pub lag_to : ℕ → SteeredClock → ℤ
lag_to reading steered =
    let base = steered.clock.base in
    steered.steering.lag
    +ℤ pos (cycles_to reading steered)
    *ℤ short_of base.counter (second_length steered.steering.ntp) base.mult

-- the lag at a reading is at most half a second in either direction
abbrev pub IsWithin : ℕ → SteeredClock → Type 0
IsWithin reading steered =
    unsigned_abs (lag_to reading steered) ≤ greatest_lag steered.clock.base.counter

-- the part of the lag that is dropped at a reading, if the lag is this one then
abbrev pub dropped_to : ℕ → ℤ → SteeredClock → ℤ
dropped_to reading lag steered = lag_to reading steered -ℤ lag

-- the part of the lag that is dropped as the next second begins, because the lag is at its greatest
abbrev pub dropped_at : ℕ → SteeredClock → ℤ
dropped_at reading steered =
    dropped_to reading (with_next_second reading steered).steering.lag steered

-- the sum of what the seconds that begin were asked for
abbrev pub asked_of : (reading : ℕ) (before after : SteeredClock) →
    IsAdvanced reading before after → ℤ
asked_of reading before after begun =
    sum_over second_begun_at asked_to reading before after begun

-- the sum of what was dropped
abbrev pub dropped_of : (reading : ℕ) (before after : SteeredClock) →
    IsAdvanced reading before after → ℤ
dropped_of reading before after begun =
    sum_over second_begun_at dropped_at reading before after begun

-- nothing is dropped as these seconds begin, while the lag stays within its bound
abbrev pub AreKept : (reading : ℕ) (before after : SteeredClock) →
    IsAdvanced reading before after → Type 0
AreKept reading before after begun =
    AreEach second_begun_at (λ at steered. IsWithin at steered → dropped_at at steered ≡ pos 0)
    reading before after begun

-- where the last account is
pub record IsConsistent (steered : SteeredClock) : Type 0 where
  -- it is at most half the counter's range after the last command, and at it while asleep
  pub ahead : distance steered.clock.base steered.last_account ≤ half steered.clock.base.counter
  pub asleep : steered.clock.base.asleep ≡ true → steered.last_account ≡ steered.clock.base.last
  -- REALTIME reaches the next second at no reading before it
  pub nearer : (at : ℕ) → IsAhead steered.clock.base at →
      HasReached steered.clock.base Realtime (nanoseconds (second_time steered.next)) at →
      distance steered.clock.base steered.last_account ≤ distance steered.clock.base at

-- what was asked for is what was given, up to the lag and to what was dropped, as seconds begin
pub record IsAccounted (reading : ℕ) (before after : SteeredClock) : Type 0 where
  pub begun : IsAdvanced reading before after
  pub sum :
      owed before +ℤ asked_of reading before after begun
      ≡ owed after +ℤ dropped_of reading before after begun
  pub kept : AreKept reading before after begun
  pub consistent : IsConsistent after

-- the lag at the account of a call. If the call sets REALTIME, no lag is left; otherwise nothing is
-- dropped while the lag stays within its bound
abbrev pub IsLeft : Bool → ℕ → ℤ → SteeredClock → Type 0
IsLeft true at lag steered = lag ≡ pos 0
IsLeft false at lag steered = IsWithin at steered → dropped_to at lag steered ≡ pos 0

-- what was asked for is what was given, up to the lag and to what was dropped, in a call at a
-- reading: as seconds begin, and then up to the account of the call itself, which drops what a
-- setting of REALTIME clears. `sets` says whether the call sets REALTIME after these seconds
pub record IsBalancedIn (sets : SteeredClock → Bool) (reading : ℕ)
    (before after : SteeredClock) : Type 0 where
  pub advanced : SteeredClock
  pub begun : IsAdvanced reading before advanced
  pub sum :
      owed before
      +ℤ (asked_of reading before advanced begun +ℤ asked_to after.last_account advanced)
      ≡ owed after
      +ℤ (dropped_of reading before advanced begun
      +ℤ dropped_to after.last_account after.steering.lag advanced)
  pub kept : AreKept reading before advanced begun
  pub left : IsLeft (sets advanced) after.last_account after.steering.lag advanced

-- a call changes nothing, or its accounts add up
abbrev pub IsBalanced : (SteeredClock → Bool) → ℕ → SteeredClock → SteeredClock → Type 0
IsBalanced sets reading before after = (after ≡ before) ⊎ IsBalancedIn sets reading before after

-- whether a command sets REALTIME: it is a setting, a step or a leap that the clocks accept
abbrev pub sets_by : ℕ → Command → SteeredClock → Bool
sets_by reading cmd steered =
    sets_real cmd && is_none (state_refusal steered.clock reading cmd)

-- whether a request sets REALTIME: the clocks accept the step that it asks for
abbrev pub sets_by_step : ℕ → Option Timespec → SteeredClock → Bool
sets_by_step reading None steered = false
sets_by_step reading (Some by) steered = sets_by reading (Step by) steered

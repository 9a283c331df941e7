-- Updates in the present second, whose end is known to be some cycles away.
use Rattle.std.specs.Prelude.{◌≡◌, ◌⊎◌, ℕ, zero, suc, ⊤, ◌+◌, ◌<◌, ◌≤◌, false}
use Rattle.tk_clock.specs.declared.clock_id.ClockId.TheVariants.{Realtime}
use Rattle.tk_clock.specs.Reach.{IsFirstReached, IsNeverReached, distance}
use Rattle.tk_clock.specs.Time.{nanoseconds}
use Rattle.tk_counter.specs.Counter.{half}
use Rattle.tk_ntp.specs.Advance.{IsNoneDue, second_time}
use Rattle.tk_ntp.specs.SteeredClock.{SteeredClock}

-- no second is due at readings that are fewer than `early` cycles after the last one
pub record IsEarlyFor (early : ℕ) (steered : SteeredClock) : Type 0 where
  pub near : early ≤ half steered.clock.base.counter + 1
  pub none :
      (reading : ℕ) → distance steered.clock.base reading < early → IsNoneDue steered reading

-- the cycles from the last reading to the next second's, or one more than the longest gap if REALTIME
-- reaches that second at no reading
abbrev pub IsToSecond : ℕ → SteeredClock → Type 0
IsToSecond cycles steered =
    let base = steered.clock.base in
    let nanos = nanoseconds (second_time steered.next) in
    ((at : ℕ) × IsFirstReached base Realtime nanos at × (cycles ≡ distance base at))
    ⊎ (IsNeverReached base Realtime nanos × (cycles ≡ half base.counter + 1))

-- clocks that are awake, whose last account is at their last command, and for which no second is due
-- for `early` cycles after it
pub record IsInSecond (early : ℕ) (steered : SteeredClock) : Type 0 where
  pub awake : steered.clock.base.asleep ≡ false
  pub last_account : steered.last_account ≡ steered.clock.base.last
  pub ahead : IsEarlyFor early steered

-- what the countdown of an owner promises: `early` cycles without a second of the discipline; 0
-- promises nothing
abbrev pub IsEarlyBy : ℕ → SteeredClock → Type 0
IsEarlyBy zero steered = ⊤
IsEarlyBy (suc rest) steered = IsInSecond (suc rest) steered

-- What is kept over a change of counter: the sum of the accounts, the offset and TAI.
use Rattle.std.specs.Prelude.{◌≡◌, ℕ, ◌+◌, ◌^◌, ◌≤◌, Bool, true, false, ℤ, pos, ◌+ℤ◌, ◌*ℤ◌, ◌<ℤ◌, ◌≤ℤ◌}
use Rattle.tk_clock.specs.ChangeCounter.{KeepsTimes}
use Rattle.tk_ntp.specs.Account.{owed, IsBalanced}
use Rattle.tk_ntp.specs.History.{IsNumbered, IsOffsetKept, IsTaiKept}
use Rattle.tk_ntp.specs.Lag.{greatest_lag}
use Rattle.tk_ntp.specs.Loops.{clamped_by}
use Rattle.tk_ntp.specs.Rate.{nominal}
use Rattle.tk_ntp.specs.SteeredClock.{SteeredClock}

-- what is owed in units of 2^-from nanoseconds is owed in units of 2^-to nanoseconds: exactly, if the
-- new shift is not smaller; otherwise less than one new unit of MONOTONIC and one of the lag is lost
pub record IsOwedOver (from to : ℕ) (before after : ℤ) : Type 0 where
  pub exact : from ≤ to → pos (2 ^ from) *ℤ after ≡ pos (2 ^ to) *ℤ before
  pub most : (pos (2 ^ from) *ℤ after) ≤ℤ (pos (2 ^ to) *ℤ before)
  pub lost : (pos (2 ^ to) *ℤ before) <ℤ (pos (2 ^ from) *ℤ (after +ℤ pos (nominal + 1)))

-- the state with a lag of at most half a second: only clocks that were restored have a longer one
abbrev pub limited : SteeredClock → SteeredClock
limited steered = record steered {
  steering = record steered.steering {
    lag = clamped_by (greatest_lag steered.clock.base.counter) steered.steering.lag;
  };
}

-- the accounts add up until the change, and what is owed then is carried over
pub record IsBalancedOver (reading : ℕ) (before after : SteeredClock) : Type 0 where
  pub middle : SteeredClock
  pub balanced : IsBalanced (λ _. false) reading before middle
  pub over :
      IsOwedOver middle.clock.base.counter.shift after.clock.base.counter.shift
      (owed (limited middle)) (owed after)

-- what is kept as the seconds before a change begin: none does while the clocks are asleep
abbrev pub AreKeptAwake : Bool → ℕ → SteeredClock → SteeredClock → Type 0
AreKeptAwake true reading before after = after ≡ before
AreKeptAwake false reading before after =
    IsNumbered reading before after × IsOffsetKept reading before after
    × IsTaiKept reading before after

-- no part of the offset is lost, and TAI and the other clocks run on, as these seconds begin and
-- over the change
pub record IsKeptOver (reading first : ℕ) (before after : SteeredClock) : Type 0 where
  pub middle : SteeredClock
  pub seconds : AreKeptAwake before.clock.base.asleep reading before middle
  pub ntp : after.steering.ntp ≡ middle.steering.ntp
  pub times : KeepsTimes middle.clock.base reading after.clock.base first

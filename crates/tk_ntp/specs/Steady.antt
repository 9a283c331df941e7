-- The lag stays small as seconds begin, while the clocks get the rates that these seconds need.
use Rattle.std.specs.Prelude.{◌≡◌, ℕ, ◌+◌, ◌*◌, ◌/◌, ◌≤◌, ◌⊎◌, Bool, true, false, not, ◌&&◌, is_none, ℤ, pos, neg_ℤ, ◌+ℤ◌, ◌*ℤ◌, ◌≤ℤ◌}
use Rattle.tk_clock.specs.declared.command.Command.{Command}
use Rattle.tk_clock.specs.declared.command.Command.TheVariants.{Update, SetTime, Step, Freq, Tick, Tai, Leap, Suspend, Resume}
use Rattle.tk_counter.specs.Counter.{Counter, IsCounter, second}
use Rattle.tk_ntp.specs.declared.timex.Timex.{Timex}
use Rattle.tk_ntp.specs.Account.{cycles_to}
use Rattle.tk_ntp.specs.Advance.{IsAdvanced, Arrived, Begins, second_begun_at}
use Rattle.tk_ntp.specs.Asked.{changes_rate}
use Rattle.tk_ntp.specs.Lag.{short_of}
use Rattle.tk_ntp.specs.Ntp.{second_length}
use Rattle.tk_ntp.specs.Rate.{nominal, IsInRange, IsGiven}
use Rattle.tk_ntp.specs.Request.{frequency_unit, step_of}
use Rattle.tk_ntp.specs.Steering.{Steered, needed}
use Rattle.tk_ntp.specs.SteeredClock.{SteeredClock}

-- what a nominal second loses if its multiplier is one unit too low, and its rate another: a lag,
-- times the counter's own multiplier
abbrev pub lost : Counter → ℕ
lost counter = second counter * (nominal + counter.mult * frequency_unit)

-- a lag is at least -0.15 of what such a second loses, and at most 1.2 of it
pub record IsSmall (counter : Counter) (lag : ℤ) : Type 0 where
  pub low : neg_ℤ (pos (3 * lost counter / 20)) ≤ℤ (pos counter.mult *ℤ lag)
  pub high : (pos counter.mult *ℤ lag) ≤ℤ pos (6 * lost counter / 5)

-- the discipline, if it had this lag
abbrev pub lagging : ℤ → Steered → Steered
lagging lag steering = record steering { lag = lag }

-- the length that the present second needs with this lag is in the range of the rates, and the
-- clocks have the multiplier that gives it
pub record HasRate (lag : ℤ) (steered : SteeredClock) : Type 0 where
  pub range : IsInRange (needed steered.clock.base.counter (lagging lag steered.steering))
  pub given :
      IsGiven steered.clock.base.counter
      (needed steered.clock.base.counter (lagging lag steered.steering)) steered.clock.base.mult

-- the clocks got their rate when the lag was `chosen`, and small; it has moved since then by what
-- `cycles` cycles add to it at that rate
pub record IsSince (chosen : ℤ) (cycles : ℕ) (steered : SteeredClock) : Type 0 where
  pub counter : IsCounter steered.clock.base.counter
  pub rate : HasRate chosen steered
  pub small : IsSmall steered.clock.base.counter chosen
  pub lag :
      let base = steered.clock.base in
      steered.steering.lag
      ≡ chosen
      +ℤ pos cycles *ℤ short_of base.counter (second_length steered.steering.ntp) base.mult

-- cycles last at most 9/8 of a nominal second, at the counter's own multiplier
abbrev pub IsSecondLong : Counter → ℕ → Type 0
IsSecondLong counter cycles = 8 * (counter.mult * cycles) ≤ 9 * second counter

-- of these seconds, the rate of the present one was chosen for the lag `chosen`, `cycles` cycles
-- before the last account. If it was at most 9/8 of a nominal second since then, the lag is small
-- as the next one begins; and if the clocks get the rate that this one needs, the same holds of the
-- later ones. If none is left, the clocks got their rate as `IsSince` states
abbrev pub AreSmall : (reading : ℕ) (chosen : ℤ) (cycles : ℕ) (before after : SteeredClock) →
    IsAdvanced reading before after → Type 0
AreSmall reading chosen cycles before after (Arrived steered none) = IsSince chosen cycles steered
AreSmall reading chosen cycles before after (Begins steered end at due rest) =
    let next = second_begun_at at steered in
    IsSecondLong steered.clock.base.counter (cycles + cycles_to at steered) →
    IsSmall steered.clock.base.counter next.steering.lag
    × (HasRate next.steering.lag next → AreSmall reading next.steering.lag 0 next end rest)

-- the lag stays small as seconds begin, if it was small when the clocks got their rate
pub record StaysSmall (reading : ℕ) (before after : SteeredClock) : Type 0 where
  pub begun : IsAdvanced reading before after
  pub small : (chosen : ℤ) (cycles : ℕ) → IsSince chosen cycles before →
      AreSmall reading chosen cycles before after begun

-- a call of clocks that got their rate while the lag was small: the lag is small at its account
abbrev pub IsSmallAfter : SteeredClock → SteeredClock → Type 0
IsSmallAfter before after = (chosen : ℤ) (cycles : ℕ) → IsSince chosen cycles before →
    IsSecondLong before.clock.base.counter (cycles + cycles_to after.last_account before) →
    IsSmall before.clock.base.counter after.steering.lag

-- a call that keeps the rate of the clocks, and the length of the second
abbrev pub IsSinceAfter : SteeredClock → SteeredClock → Type 0
IsSinceAfter before after = (chosen : ℤ) (cycles : ℕ) → IsSince chosen cycles before →
    IsSecondLong before.clock.base.counter (cycles + cycles_to after.last_account before) →
    IsSince chosen (cycles + cycles_to after.last_account before) after

-- the lag stays small in a call: as the seconds up to its reading begin, and at the account of the
-- call itself. `keeps` says whether the call leaves the rate as it is
pub record IsSmallIn (keeps : Bool) (reading : ℕ) (before after : SteeredClock) : Type 0 where
  pub advanced : SteeredClock
  pub stays : StaysSmall reading before advanced
  pub small : IsSmallAfter advanced after
  pub since : keeps ≡ true → IsSinceAfter advanced after

-- a call changes nothing, or leaves a small lag
abbrev pub IsSmallOrSame : Bool → ℕ → SteeredClock → SteeredClock → Type 0
IsSmallOrSame keeps reading before after = (after ≡ before) ⊎ IsSmallIn keeps reading before after

-- whether a request leaves the rate as it is: it has no step, no offset, no frequency and no
-- tick
abbrev pub keeps_rate : Timex → Bool
keeps_rate request = is_none (step_of request) && not (changes_rate request.modes)

-- whether a command leaves it: one that sets or wakes the clocks doesn't, nor one that is a request
abbrev pub is_kept_by : Command → Bool
is_kept_by Update = true
is_kept_by (SetTime time) = false
is_kept_by (Step by) = false
is_kept_by (Freq frequency) = false
is_kept_by (Tick tick) = false
is_kept_by (Tai seconds) = true
is_kept_by (Leap by tai) = false
is_kept_by Suspend = true
is_kept_by (Resume away) = false

-- Clocks restored from a snapshot, a frequency and a tick.
use Rattle.std.specs.Prelude.{◌≡◌, ◌⊎◌, ℕ, ℤ, Option, None, SomeIff, MatchOption}
use Rattle.tk_clock.specs.Running.{IsRunning}
use Rattle.tk_clock.specs.Snapshot.{Snapshot}
use Rattle.tk_c.specs.Codes.{number_of}
use Rattle.tk_c.specs.declared.code.Code.TheVariants.{Done, BadWords}
use Rattle.tk_c.specs.declared.counted.CountedClock.{CountedClock}
use Rattle.tk_c.specs.declared.storage.ClockStorage.{ClockStorage}
use Rattle.tk_c.specs.Storage.{clock_storage}

-- the clocks of a snapshot, a frequency in 2^-16 ppm and a tick in microseconds
abbrev pub clock_with : Snapshot → ℤ → ℤ → CountedClock
clock_with snapshot frequency tick = record {
  clock = record { base = snapshot.base; frequency = frequency; tick = tick };
  front = snapshot.front;
}

-- the running clocks of a snapshot, if there is one, a frequency and a tick, if they can be
abbrev pub IsClockOf : Option Snapshot → ℤ → ℤ → Option CountedClock → Type 0
IsClockOf found frequency tick clock = MatchOption found (clock ≡ None)
    (λ snapshot. SomeIff clock (IsRunning snapshot.base frequency tick)
    (clock_with snapshot frequency tick))

-- the answer for clocks that words may represent
abbrev pub IsClockWritten : Option CountedClock → ClockStorage → ClockStorage → ℕ → Type 0
IsClockWritten clock old new code = MatchOption clock
    ((code ≡ number_of BadWords) × (new ≡ old))
    (λ counted. (code ≡ number_of Done) × (new ≡ clock_storage counted.front counted.clock))

-- running clocks can be in this state, and it is written
pub record IsTaken (snapshot : Snapshot) (frequency tick : ℤ) (new : ClockStorage)
    (code : ℕ) : Type 0 where
  pub running : IsRunning snapshot.base frequency tick
  pub written : new ≡ clock_storage snapshot.front (record {
    base = snapshot.base;
    frequency = frequency;
    tick = tick;
  })
  pub done : code ≡ number_of Done

-- running clocks are never in this state, and nothing is written
pub record IsNotTaken (snapshot : Snapshot) (frequency tick : ℤ) (old new : ClockStorage)
    (code : ℕ) : Type 0 where
  pub not_running : ¬ (IsRunning snapshot.base frequency tick)
  pub unchanged : new ≡ old
  pub refused : code ≡ number_of BadWords

-- the answer for a snapshot, a frequency and a tick
abbrev pub IsClockRestored : Snapshot → ℤ → ℤ → ClockStorage → ClockStorage → ℕ → Type 0
IsClockRestored snapshot frequency tick old new code =
    IsTaken snapshot frequency tick new code
    ⊎ IsNotTaken snapshot frequency tick old new code

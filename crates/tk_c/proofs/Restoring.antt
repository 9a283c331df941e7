-- Clocks that are written if they were found.
use Rattle.std.proofs.Common.{arith, ◌≡◌, ℕ, ℤ, Some, None, List, inl, inr}
use Rattle.std.specs.Prelude.{Option, MatchOption}
use Rattle.tk_counter.specs.Counter.{Counter}
use Rattle.tk_clock.specs.Snapshot.{Snapshot}
use Rattle.tk_clock.specs.Words.{restored}
use Rattle.tk_c.specs.declared.code.Code.TheVariants.{BadWords}
use Rattle.tk_c.specs.declared.counted.CountedClock.{CountedClock}
use Rattle.tk_c.specs.declared.storage.ClockStorage.{ClockStorage}
use Rattle.tk_c.specs.Codes.{number_of}
use Rattle.tk_c.specs.Restored.{IsClockOf, IsClockRestored, IsClockWritten}

-- the answer for a snapshot that may be missing
abbrev Answer : Option Snapshot → ℤ → ℤ → ClockStorage → ClockStorage → ℕ → Type 0
Answer found frequency tick old new code =
    MatchOption found ((code ≡ number_of BadWords) × (new ≡ old))
    (λ snapshot. IsClockRestored snapshot frequency tick old new code)

pub answered : (found : Option Snapshot) (frequency tick : ℤ) (clock : Option CountedClock)
    (old new : ClockStorage) (code : ℕ) → IsClockOf found frequency tick clock
    → IsClockWritten clock old new code → Answer found frequency tick old new code
answered None frequency tick None old new code is written = written
answered None frequency tick (Some clock) old new code is written = absurd (grind arith)
answered (Some snapshot) frequency tick None old new code is written =
    inr record { not_running = is; unchanged = written.1; refused = written.0 }
answered (Some snapshot) frequency tick (Some clock) old new code is written =
    inl record { running = is.0; written = rw is.1 at written.1; done = written.0 }

-- the same for words of a counter that may be missing
pub loaded : (found : Option Counter) (words : List ℕ) (frequency tick : ℤ)
    (clock : Option CountedClock) (old new : ClockStorage) (code : ℕ)
    → MatchOption found (clock ≡ None)
    (λ counter. IsClockOf (restored counter words) frequency tick clock)
    → IsClockWritten clock old new code
    → MatchOption found ((code ≡ number_of BadWords) × (new ≡ old))
    (λ counter. Answer (restored counter words) frequency tick old new code)
loaded None words frequency tick clock old new code none written = rw none at written
loaded (Some counter) words frequency tick clock old new code is written =
    answered (restored counter words) frequency tick clock old new code is written

-- A change of counter of clocks that count the commands that they accept.
use Rattle.std.specs.Prelude.{◌≡◌, ℕ, ◌+◌, ⊤, Option, Some, nat_le, if◌then◌else◌, MatchOption}
use Rattle.tk_counter.specs.Counter.{Counter}
use Rattle.tk_clock.specs.ChangeCounter.{changed, change_refusal, KeepsTimes, NeverFallsOver}
use Rattle.tk_clock.specs.declared.refusal.Refusal.{Refusal}
use Rattle.tk_clock.specs.declared.refusal.Refusal.TheVariants.{Full}
use Rattle.tk_clock.specs.Limits.{counted_most}
use Rattle.tk_c.specs.declared.counted.CountedClock.{CountedClock}
use Rattle.tk_c.specs.declared.code.Code.TheVariants.{Done}
use Rattle.tk_c.specs.Codes.{number_of, code_of_refusal}

-- why a change is refused; the test for a full count comes first
abbrev pub counted_change_refusal : CountedClock → ℕ → Counter → ℕ → Option Refusal
counted_change_refusal counted reading counter first =
    if nat_le counted_most counted.front then Some Full
    else change_refusal counted.clock reading counter first

-- the effect of an accepted change: it is counted as a command
abbrev pub counted_change : CountedClock → ℕ → Counter → ℕ → CountedClock
counted_change counted reading counter first = record {
  clock = changed counted.clock reading counter first;
  front = counted.front + 1;
}

-- the code that a call returns for a change, and the clocks after the call: a refusal doesn't
-- change them
abbrev pub IsChanged : CountedClock → ℕ → Counter → ℕ → ℕ → CountedClock → Type 0
IsChanged old reading counter first code new =
    MatchOption (counted_change_refusal old reading counter first)
    ((code ≡ number_of Done) × (new ≡ counted_change old reading counter first))
    (λ refusal. (code ≡ number_of (code_of_refusal refusal)) × (new ≡ old))

-- every clock keeps its time, from a reading of the old counter to one of the new, unless the
-- change is refused
abbrev pub KeepsCountedTimes : CountedClock → ℕ → Counter → ℕ → CountedClock → Type 0
KeepsCountedTimes old reading counter first new =
    MatchOption (counted_change_refusal old reading counter first)
    (KeepsTimes old.clock.base reading new.clock.base first)
    (λ _. ⊤)

-- MONOTONIC doesn't fall over the change, unless the change is refused
abbrev pub NeverFallsCounted : CountedClock → ℕ → Counter → ℕ → CountedClock → Type 0
NeverFallsCounted old reading counter first new =
    MatchOption (counted_change_refusal old reading counter first)
    (NeverFallsOver old.clock.base reading new.clock.base)
    (λ _. ⊤)

-- The life of a listed reading, by true counts.
use Rattle.std.specs.Prelude.{◌≡◌, ℕ, ◌+◌, ◌-◌, ◌%◌, ◌^◌, ◌<◌, ◌≤◌, List, false, length, Some, slice_get}
use Rattle.tk_counter.specs.Counter.{half}
use Rattle.tk_clock.specs.Journal.{Journal, prefix, reading_at, is_asleep_at}
use Rattle.tk_clock.specs.Life.{IsInLife, NeverFalls}
use Rattle.tk_clock.specs.Monotonic.{monotonic}
use Rattle.tk_now.specs.declared.rule.Taken.{Taken}
use Rattle.tk_now.specs.declared.rule.Answer.{Answer}
use Rattle.tk_now.specs.Honest.{AreTrueCounts}
use Rattle.tk_now.specs.Moments.{AreInOrder, AreInLife}

-- the commands of a notice are the entries of a history, the opening first
pub record AreReadings (history : Journal) (commands : List Taken) : Type 0 where
  pub count : length commands ≡ length history.entries + 1
  pub each : (place : ℕ) (t : Taken) → slice_get commands place ≡ Some t →
      t.reading ≡ reading_at history place

-- while the clocks are awake, true counts grow by at most half the mask from one entry to the next
abbrev pub AreNear : Journal → (ℕ → ℕ) → Type 0
AreNear history command =
    (place : ℕ) → place < length history.entries → is_asleep_at history place ≡ false →
    command (place + 1) - command place ≤ half history.opening.counter

-- all answers are in the lives of the history's first entries up to their places, so MONOTONIC at
-- them is at most MONOTONIC of the whole history at any reading
abbrev pub AnswersAreInLife : Type 0
AnswersAreInLife = (history : Journal) (at command answer : ℕ → ℕ) (commands : List Taken)
    (log : List Answer) → AreReadings history commands → AreInOrder commands →
    AreInLife commands log →
    AreTrueCounts at command answer history.opening.counter.bits commands log → AreNear history command →
    NeverFalls history → (i : ℕ) (a : Answer) → slice_get log i ≡ Some a →
    a.place < length history.entries →
    let m = 2 ^ history.opening.counter.bits in
    IsInLife history a.place (a.taken.reading % m)
    × ((reading : ℕ) →
    monotonic (prefix a.place history) (a.taken.reading % m) ≤ monotonic history reading)

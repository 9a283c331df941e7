-- A change of counter of steered clocks that count their commands, as a C caller gets it.
use Rattle.std.specs.Prelude.{◌≡◌, ◌⊎◌, ℕ, ◌+◌, ⊤, Bool, true, false, None, Some, Result, Err, MatchOption, MatchResult}
use Rattle.tk_counter.specs.Counter.{Counter}
use Rattle.tk_clock.specs.declared.refusal.Refusal.{Refusal}
use Rattle.tk_clock.specs.ChangeCounter.{change_refusal, reading_refusal}
use Rattle.tk_ntp.specs.ChangeCounter.{steered_over}
use Rattle.tk_ntp.specs.Course.{course_of}
use Rattle.tk_ntp.specs.Keeping.{IsAdvancedTo}
use Rattle.tk_c.specs.declared.counted_ntp.SteeredCount.{SteeredCount}
use Rattle.tk_c.specs.CallResults.{code_of_call}
use Rattle.tk_c.specs.Codes.{number_of}
use Rattle.tk_c.specs.CountedNtp.{counted_clock}
use Rattle.tk_c.specs.Room.{HasCounted, HasRoom, IsShort, clocks_of}

-- the clocks after an accepted change: it is counted as a command
abbrev pub counted_over : SteeredCount → ℕ → Counter → ℕ → SteeredCount
counted_over old reading counter first = record {
  steered = steered_over reading counter first old.steered;
  front = old.front + 1;
}

-- the result of a change once these seconds have begun: it needs room for one command
abbrev pub IsOver : SteeredCount → ℕ → Counter → ℕ → Result ⊤ Refusal → SteeredCount → Type 0
IsOver old reading counter first called new =
    MatchResult called
    (λ _. HasRoom 1 (counted_clock old)
    × (change_refusal old.steered.clock reading counter first ≡ None)
    × (new ≡ counted_over old reading counter first))
    (λ refusal. (new ≡ old)
    × (IsShort 1 (counted_clock old) refusal
    ⊎ (HasRoom 1 (counted_clock old)
    × (change_refusal old.steered.clock reading counter first ≡ Some refusal))))

-- the result of a change of clocks that are awake: the seconds up to its reading begin first
abbrev pub IsOverAwake : SteeredCount → ℕ → Counter → ℕ → Result ⊤ Refusal → SteeredCount → Type 0
IsOverAwake old reading counter first called new =
    (middle : SteeredCount) × (begun : Result ⊤ Refusal)
    × IsAdvancedTo clocks_of HasCounted HasRoom IsShort false 0 reading (counted_clock old)
    (course_of old.steered) begun (counted_clock middle) (course_of middle.steered)
    × MatchResult begun
    (λ _. IsOver middle reading counter first called new)
    (λ refusal. (called ≡ Err refusal) × (new ≡ middle))

-- the result of a change of clocks that are asleep: the reading only has to be in its range
abbrev pub IsOverAsleep : SteeredCount → ℕ → Counter → ℕ → Result ⊤ Refusal → SteeredCount → Type 0
IsOverAsleep old reading counter first called new =
    MatchOption (reading_refusal old.steered.clock.base.counter reading)
    (IsOver old reading counter first called new)
    (λ refusal. (called ≡ Err refusal) × (new ≡ old))

abbrev IsOverIf : Bool → SteeredCount → ℕ → Counter → ℕ → Result ⊤ Refusal → SteeredCount → Type 0
IsOverIf true old reading counter first called new =
    IsOverAsleep old reading counter first called new
IsOverIf false old reading counter first called new =
    IsOverAwake old reading counter first called new

-- the result of a change of counter: `first` is tested before all else
abbrev pub IsOverBegun : SteeredCount → ℕ → Counter → ℕ → Result ⊤ Refusal → SteeredCount → Type 0
IsOverBegun old reading counter first called new =
    MatchOption (reading_refusal counter first)
    (IsOverIf old.steered.clock.base.asleep old reading counter first called new)
    (λ refusal. (called ≡ Err refusal) × (new ≡ old))

-- the code of a change of counter, and the clocks after it
pub record IsNtpOver (old : SteeredCount) (reading : ℕ) (counter : Counter) (first code : ℕ)
    (new : SteeredCount) : Type 0 where
  pub called : Result ⊤ Refusal
  pub clocks : IsOverBegun old reading counter first called new
  pub stated : code ≡ number_of (code_of_call called)

-- The result of converting a list of stamps, as a C caller gets it.
use Rattle.std.specs.Prelude.{◌≡◌, ◌<◌, ◌≤◌, ◌⊎◌, ℕ, ⊤, List, length, MatchOption, Result, Ok, Err}
use Rattle.tk_clock.specs.declared.clock_id.ClockId.{ClockId}
use Rattle.tk_clock.specs.State.{ReadBase}
use Rattle.tk_lanes.specs.Batch.{IsBatch}
use Rattle.tk_lanes.specs.declared.batch_error.BatchError.{BatchError}
use Rattle.tk_lanes.specs.declared.batch_error.BatchError.TheVariants as errors
use Rattle.tk_c.specs.Codes.{number_of}
use Rattle.tk_c.specs.Named.{clock_named}
use Rattle.tk_c.specs.declared.code.Code.{Code}
use Rattle.tk_c.specs.declared.code.Code.TheVariants.{Done, Invalid, Range, BadClock, BadRoom}

-- the code of an answer
abbrev pub code_of_answer : Result ⊤ BatchError → Code
code_of_answer (Ok done) = Done
code_of_answer (Err (errors.Invalid index)) = Invalid
code_of_answer (Err (errors.Range index)) = Range

-- the number of converted stamps: all `count` of them, or the stamps before the first refused one
abbrev pub converted_of : ℕ → Result ⊤ BatchError → ℕ
converted_of count (Ok done) = count
converted_of count (Err (errors.Invalid index)) = index
converted_of count (Err (errors.Range index)) = index

-- the stamps have an answer, which `code` and `converted` report; the converted items are written,
-- and all others are unchanged
pub record IsConverted (base : ReadBase) (clock : ClockId) (stamps old new : List ℕ)
    (converted code : ℕ) : Type 0 where
  pub answer : Result ⊤ BatchError
  pub batch : IsBatch base clock stamps old new answer
  pub count : converted ≡ converted_of (length stamps) answer
  pub stated : code ≡ number_of (code_of_answer answer)

-- the answer for a clock's number, an output list and a list of stamps. For an unknown clock, or if
-- the output list is shorter than the stamps, that list and the number of converted stamps are
-- unchanged
abbrev pub IsAnswered : ReadBase → ℕ → List ℕ → List ℕ → List ℕ → ℕ → ℕ → ℕ → Type 0
IsAnswered base clock stamps old new before after code = MatchOption (clock_named clock)
    ((code ≡ number_of BadClock) × (new ≡ old) × (after ≡ before))
    (λ named. ((length old < length stamps)
    × (code ≡ number_of BadRoom) × (new ≡ old) × (after ≡ before))
    ⊎ ((length stamps ≤ length old) × IsConverted base named stamps old new after code))

-- The fields of a record, read from left to right: each field has the form that its place requires,
-- or it is the record's fault.
use Rattle.std.specs.Prelude.{ℕ, ℤ, ◌+◌, ◌==◌, List, [], length, Result, Ok, Err, unwrap_or, if◌then◌else◌}
use Rattle.std.specs.Option.{ok_or}
use Rattle.csv.specs.Records.{field_at}
use Rattle.tk_clock.specs.declared.clock_id.ClockId.{ClockId}
use Rattle.tk_clock.specs.declared.timespec.Timespec.{Timespec}
use Rattle.tk_script.specs.Number.{number_of, number8_of, number32_of, signed_of}
use Rattle.tk_script.specs.Word.{clock_of}
use Rattle.tk_script.specs.declared.script_error.ScriptError.{ScriptError}
use Rattle.tk_script.specs.declared.script_error.ScriptError.TheVariants as errors

-- continue with the value that was read, or stop at its fault
infixl 10 ◌>>=◌
abbrev pub ◌>>=◌ : {A B : Type 0} → Result A ScriptError → (A → Result B ScriptError) →
    Result B ScriptError
(Ok x) >>= f = f x
(Err e) >>= f = Err e

-- the field at a place, counted from 0; empty if the record has no such field
abbrev pub field : List (List ℕ) → ℕ → List ℕ
field fields i = unwrap_or (field_at fields i) []

-- a 64-bit number in field `i` of the record `row`
abbrev pub number_at : ℕ → List (List ℕ) → ℕ → Result ℕ ScriptError
number_at row fields i = ok_or (number_of (field fields i)) (errors.Number row)

-- an 8-bit number in that field
abbrev pub number8_at : ℕ → List (List ℕ) → ℕ → Result ℕ ScriptError
number8_at row fields i = ok_or (number8_of (field fields i)) (errors.Number row)

-- a 32-bit number in that field
abbrev pub number32_at : ℕ → List (List ℕ) → ℕ → Result ℕ ScriptError
number32_at row fields i = ok_or (number32_of (field fields i)) (errors.Number row)

-- a signed 64-bit number in that field
abbrev pub signed_at : ℕ → List (List ℕ) → ℕ → Result ℤ ScriptError
signed_at row fields i = ok_or (signed_of (field fields i)) (errors.Number row)

-- the reading (cycles) of a record with `count` fields
unfoldable pub reading_of : ℕ → List (List ℕ) → ℕ → Result ℕ ScriptError
reading_of row fields count =
    if length fields == count then number_at row fields 1 else Err (errors.Fields row)

-- a time: seconds in field `i` (signed, 64 bits), and nanoseconds in the next field (32 bits)
unfoldable pub time_at : ℕ → List (List ℕ) → ℕ → Result Timespec ScriptError
time_at row fields i = do
  sec ← signed_at row fields i
  nsec ← number32_at row fields (i + 1)
  Ok (record { sec = sec; nsec = nsec })

-- the clock that field `i` names
abbrev pub clock_at : ℕ → List (List ℕ) → ℕ → Result ClockId ScriptError
clock_at row fields i = ok_or (clock_of (field fields i)) (errors.Word row)

-- The records of a script after the first one: the keyword selects the form.
use Rattle.std.specs.Prelude.{ℕ, ℤ, List, length, Option, Some, None, Result, Ok, Err, ◌==◌, ◌||◌, if◌then◌else◌, codes}
use Rattle.tk_counter.specs.Counter.{Counter}
use Rattle.tk_counter.specs.Description.{first_fault}
use Rattle.tk_counter.specs.declared.desc_error.DescError.{DescError}
use Rattle.tk_clock.specs.declared.command.Command.{Command}
use Rattle.tk_clock.specs.declared.command.Command.TheVariants.{Update, SetTime, Step, Freq, Tick, Tai, Suspend, Resume}
use Rattle.tk_clock.specs.declared.timespec.Timespec.{Timespec}
use Rattle.tk_script.specs.Word.{is_word}
use Rattle.tk_script.specs.Field.{◌>>=◌, field, number_at, number32_at, reading_of, signed_at, time_at, clock_at}
use Rattle.tk_script.specs.Records.{each}
use Rattle.tk_script.specs.Requests.{ask_of}
use Rattle.tk_script.specs.declared.row.Row.{Row}
use Rattle.tk_script.specs.declared.row.Row.TheVariants.{Act, Look, Change}
use Rattle.tk_script.specs.declared.script_error.ScriptError.{ScriptError}
use Rattle.tk_script.specs.declared.script_error.ScriptError.TheVariants as errors

-- the fields of a record with a reading (cycles) and a time
unfoldable pub timed_of : ℕ → List (List ℕ) → Result (ℕ × Timespec) ScriptError
timed_of row fields = do
  reading ← reading_of row fields 4
  time ← time_at row fields 2
  Ok (reading, time)

-- the fields of a record with a reading (cycles) and a signed number
unfoldable pub valued_of : ℕ → List (List ℕ) → Result (ℕ × ℤ) ScriptError
valued_of row fields = do
  reading ← reading_of row fields 3
  value ← signed_at row fields 2
  Ok (reading, value)

-- the value that a read expects, in ns: none if the record has no field for it
abbrev pub expected_of : ℕ → List (List ℕ) → Result (Option ℕ) ScriptError
expected_of row fields =
    if length fields == 3 then Ok None else (number_at row fields 3 >>= λ value. Ok (Some value))

-- the row of a read: a reading (cycles), a clock, and perhaps the expected value (ns)
unfoldable pub look_of : ℕ → List (List ℕ) → Result Row ScriptError
look_of row fields =
    if length fields == 3 || length fields == 4 then (do
      reading ← number_at row fields 1
      clock ← clock_at row fields 2
      expected ← expected_of row fields
      Ok (Look reading clock expected))
    else Err (errors.Fields row)

-- the counter with these values, or the fault of their record
abbrev pub counter_if : ℕ → Counter → Option DescError → Result Counter ScriptError
counter_if row counter None = Ok counter
counter_if row counter (Some fault) = Err (errors.Counter row fault)

-- the counter with these values, or their first fault as the fault of the record
abbrev pub counter_of : ℕ → Counter → Result Counter ScriptError
counter_of row counter = counter_if row counter (first_fault counter)

-- the row of a change of counter: a reading of the present counter (cycles), the bits, the mult and
-- the shift of the next one, and a reading of that one (cycles)
unfoldable pub change_of : ℕ → List (List ℕ) → Result Row ScriptError
change_of row fields = do
  reading ← reading_of row fields 6
  bits ← number32_at row fields 2
  mult ← number32_at row fields 3
  shift ← number32_at row fields 4
  first ← number_at row fields 5
  counter ← counter_of row (record { bits = bits; mult = mult; shift = shift })
  Ok (Change reading counter first)

-- the row of a command without an operand
abbrev pub plain : Command → Result ℕ ScriptError → Result Row ScriptError
plain command read = read >>= λ reading. Ok (Act reading command)

-- the row of a command with an operand
abbrev pub with_operand : {A : Type 0} → (A → Command) → Result (ℕ × A) ScriptError →
    Result Row ScriptError
with_operand command read = read >>= λ p. Ok (Act p.0 (command p.1))

-- the command, the read, the change of counter or the request in the record `row`, or its fault
unfoldable pub row_of : ℕ → List (List ℕ) → Result Row ScriptError
row_of row fields =
    if is_word (field fields 0) (codes "update") then plain Update (reading_of row fields 2)
    else if is_word (field fields 0) (codes "get") then look_of row fields
    else if is_word (field fields 0) (codes "set") then with_operand SetTime (timed_of row fields)
    else if is_word (field fields 0) (codes "step") then with_operand Step (timed_of row fields)
    else if is_word (field fields 0) (codes "freq") then with_operand Freq (valued_of row fields)
    else if is_word (field fields 0) (codes "tick") then with_operand Tick (valued_of row fields)
    else if is_word (field fields 0) (codes "tai") then with_operand Tai (valued_of row fields)
    else if is_word (field fields 0) (codes "suspend") then plain Suspend (reading_of row fields 2)
    else if is_word (field fields 0) (codes "resume") then with_operand Resume (timed_of row fields)
    else if is_word (field fields 0) (codes "counter") then change_of row fields
    else if is_word (field fields 0) (codes "adjtimex") then ask_of row fields
    else Err (errors.Word row)

-- the rows of these records, of which the first is the record `row`, or their first fault
abbrev pub rows_of : ℕ → List (List (List ℕ)) → Result (List Row) ScriptError
rows_of row records = each row_of row records

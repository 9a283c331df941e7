-- The first record of a script: clocks that are opened at a reading of their counter (cycles), with
-- REALTIME at that reading, or running clocks. A discipline steers opened clocks if there is one
-- more field: the number of parts of a second, `hz`. It steers running clocks if its numbers follow.
use Rattle.std.specs.Prelude.{ℕ, List, length, is_none, Option, Some, None, Result, Ok, Err, ◌==◌, ◌||◌, if◌then◌else◌, codes}
use Rattle.tk_clock.specs.Refusal.{opening_refusal}
use Rattle.tk_ntp.specs.SteeredClock.{steered_refusal}
use Rattle.tk_script.specs.Word.{is_word}
use Rattle.tk_script.specs.Counters.{counter_of}
use Rattle.tk_script.specs.Field.{◌>>=◌, field, number_at, number32_at, time_at}
use Rattle.tk_script.specs.RunningClocks.{running_of}
use Rattle.tk_script.specs.declared.opening.Opening.{Opening}
use Rattle.tk_script.specs.declared.opening.Start.{Start}
use Rattle.tk_script.specs.declared.opening.Start.TheVariants.{Opened, Steered}
use Rattle.tk_script.specs.declared.opening.Telling.{Telling}
use Rattle.tk_script.specs.declared.opening.Telling.TheVariants as tellings
use Rattle.tk_script.specs.declared.script_error.ScriptError.{ScriptError}
use Rattle.tk_script.specs.declared.script_error.ScriptError.TheVariants as errors

-- the beginning with an opening, if clocks can be opened with its values
abbrev pub started : Opening → Result Start ScriptError
started opening =
    if is_none (opening_refusal opening.desc opening.reading opening.real)
    then Ok (Opened opening) else Err (errors.Opening 1)

-- the beginning with an opening and `hz`, if steered clocks can be opened with these values
abbrev pub started_steered : Opening → ℕ → Result Start ScriptError
started_steered opening hz =
    if is_none (steered_refusal opening.desc opening.reading opening.real hz)
    then Ok (Steered opening hz) else Err (errors.Opening 1)

-- the beginning with an opening: a discipline steers the clocks if there is an `hz`
abbrev pub started_by : Opening → Option ℕ → Result Start ScriptError
started_by opening None = started opening
started_by opening (Some hz) = started_steered opening hz

-- `hz` in the field after the seven of an opening without it, or `None` if there are only seven
abbrev pub hz_of : List (List ℕ) → Result (Option ℕ) ScriptError
hz_of fields =
    if length fields == 7 then Ok None else (number32_at 1 fields 7 >>= λ hz. Ok (Some hz))

-- the opening in these fields: a keyword, bits, the two numbers that describe the counter, reading,
-- sec and nsec, and hz if there is one more field
unfoldable pub opening_of : Telling → List (List ℕ) → Result Start ScriptError
opening_of telling fields =
    if length fields == 7 || length fields == 8 then (do
      bits ← number32_at 1 fields 1
      first ← number32_at 1 fields 2
      second ← number32_at 1 fields 3
      reading ← number_at 1 fields 4
      real ← time_at 1 fields 5
      hz ← hz_of fields
      counter ← counter_of telling bits first second
      started_by (record { desc = counter; reading = reading; real = real }) hz)
    else Err (errors.Fields 1)

-- the clocks in the first record, by its keyword: the two numbers are mult and shift after `open`,
-- and hz and maxsec after `openhz`
unfoldable pub start_of : List (List ℕ) → Result Start ScriptError
start_of fields =
    if is_word (field fields 0) (codes "open") then opening_of tellings.Scale fields
    else if is_word (field fields 0) (codes "openhz") then opening_of tellings.Frequency fields
    else if is_word (field fields 0) (codes "openwords") then running_of fields
    else Err (errors.Opening 1)

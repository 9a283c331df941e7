-- The records of a script's bytes, as `csv` reads them, and their parsed values.
use Rattle.std.specs.Prelude.{ℕ, ◌+◌, ◌^◌, List, [], ◌∷◌, length, Result, Ok}
use Rattle.csv.specs.Reading.{default_config, records_from, strip_bom}
use Rattle.csv.specs.declared.parser.State.{State}
use Rattle.csv.specs.declared.parser.State.TheVariants.{StartRecord}
use Rattle.tk_script.specs.Field.{◌>>=◌}
use Rattle.tk_script.specs.declared.script_error.ScriptError.{ScriptError}

-- the most bytes of a script and of a stamp file
abbrev pub most_bytes : ℕ
most_bytes = 2 ^ 24

-- the records of the following bytes, when csv's reader is in this state
abbrev pub records_after : State → List ℕ → List (List (List ℕ))
records_after state bytes = records_from default_config (length bytes + 1) state bytes

-- all records of a text, without its byte order mark
abbrev pub records_of : List ℕ → List (List (List ℕ))
records_of bytes = records_after StartRecord (strip_bom bytes)

-- the values that `parse` parses from these records, of which the first is the record `row`, or the
-- first fault
unfoldable pub each : {A : Type 0} → (ℕ → List (List ℕ) → Result A ScriptError) → ℕ →
    List (List (List ℕ))
    → Result (List A) ScriptError
each parse row [] = Ok []
each parse row (fields ∷ later) =
    parse row fields >>= λ first. (each parse (row + 1) later >>= λ rest. Ok (first ∷ rest))

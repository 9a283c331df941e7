-- The meaning of a script: its records, parsed from the first to the last, or the first fault.
use Rattle.std.specs.Prelude.{◌≡◌, ℕ, List, [], ◌∷◌, length, Result, Ok, Err, nat_lt, if◌then◌else◌}
use Rattle.tk_script.specs.Field.{◌>>=◌}
use Rattle.tk_script.specs.Opening.{start_of}
use Rattle.tk_script.specs.Rows.{rows_of}
use Rattle.tk_script.specs.Records.{records_of, most_bytes}
use Rattle.tk_script.specs.declared.opening.Start.{Start}
use Rattle.tk_script.specs.declared.row.Row.{Row}
use Rattle.tk_script.specs.declared.script_error.ScriptError.{ScriptError}
use Rattle.tk_script.specs.declared.script_error.ScriptError.TheVariants as errors

-- the content of a script, regardless of its place in memory
pub record Parse : Type 0 where
  -- how the clocks begin
  pub start : Start
  -- the commands, the reads, the changes of counter and the requests, in order
  pub rows : List Row

-- the first record is the opening, and the others are rows
unfoldable pub parse_records : List (List (List ℕ)) → Result Parse ScriptError
parse_records [] = Err errors.Empty
parse_records (first ∷ later) =
    start_of first >>= λ start. (rows_of 2 later >>= λ rows.
    Ok (record { start = start; rows = rows }))

-- the content of a script with these bytes
unfoldable pub parse_of : List ℕ → Result Parse ScriptError
parse_of bytes =
    if nat_lt most_bytes (length bytes) then Err errors.TooLarge else parse_records (records_of bytes)

-- the error is the fault of the reading; an allocation failure may replace any result
abbrev pub Fails : {Y : Type 0} → ScriptError → Result Y ScriptError → Type 0
Fails errors.Memory read = Unit {0}
Fails errors.TooLarge read = read ≡ Err errors.TooLarge
Fails errors.Empty read = read ≡ Err errors.Empty
Fails (errors.Opening row) read = read ≡ Err (errors.Opening row)
Fails (errors.Word row) read = read ≡ Err (errors.Word row)
Fails (errors.Fields row) read = read ≡ Err (errors.Fields row)
Fails (errors.Number row) read = read ≡ Err (errors.Number row)
Fails (errors.Counter row fault) read = read ≡ Err (errors.Counter row fault)

-- the result of a function, seen through `view`, is the result of the reading, or its error is one
-- that `Fails` allows
abbrev pub Gives : {X Y : Type 0} → (X → Y) → Result X ScriptError → Result Y ScriptError → Type 0
Gives view (Ok x) read = read ≡ Ok (view x)
Gives view (Err e) read = Fails e read

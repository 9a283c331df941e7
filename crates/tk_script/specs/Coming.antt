-- The records of a script that a row reader has not read yet, and their rows.
use Rattle.std.specs.Prelude.{◌≡◌, ℕ, ◌+◌, ◌<◌, ◌^◌, List, [], ◌∷◌, length, Option, Some, None, IsSome, Result, Ok, Err}
use Rattle.tk_script.specs.Cursor.{IsCursor, left_in, remaining}
use Rattle.tk_script.specs.Grammar.{Parse}
use Rattle.tk_script.specs.Rows.{rows_of}
use Rattle.tk_script.specs.declared.opening.Start.{Start}
use Rattle.tk_script.specs.declared.row.Row.{Row}
use Rattle.tk_script.specs.declared.row_reader.RowReader.{RowReader}
use Rattle.tk_script.specs.declared.script_error.ScriptError.{ScriptError}

-- the number of remaining records
unfoldable pub records_left : RowReader → ℕ
records_left reader = length (remaining reader.records)

-- the rows of the remaining records, or their first fault
unfoldable pub coming : RowReader → Result (List Row) ScriptError
coming reader = rows_of reader.row (remaining reader.records)

-- the reader has not failed, and each remaining record has a number below 2^32
pub record IsReady (reader : RowReader) : Type 0 where
  pub reading : IsCursor reader.records
  pub left : IsSome (left_in reader.records)
  pub count : reader.row + records_left reader < 2 ^ 32

-- a row, followed by the rows of a later reading, or the fault of that reading
abbrev pub row_and : Row → Result (List Row) ScriptError → Result (List Row) ScriptError
row_and row (Ok later) = Ok (row ∷ later)
row_and row (Err fault) = Err fault

-- the result of one read: `Some row` means that the next record gave this row and the other records
-- remain; `None` means that no record remained
abbrev pub Steps : Option Row → RowReader → RowReader → Type 0
Steps None old new = coming old ≡ Ok []
Steps (Some row) old new =
    IsReady new × (records_left old ≡ records_left new + 1)
    × (coming old ≡ row_and row (coming new))

-- a script with this opening and the rows of a reading, or the fault of that reading
abbrev pub opened_with : Start → Result (List Row) ScriptError → Result Parse ScriptError
opened_with start (Ok rows) =
    Ok (record { start = start; rows = rows })
opened_with start (Err fault) = Err fault

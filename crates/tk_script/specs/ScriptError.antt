-- The texts of the faults of scripts and stamp files.
use Rattle.std.specs.Prelude.{ℕ, List, ◌++◌, codes, decimal}
use Rattle.tk_counter.specs.DescError.{fault_text}
use Rattle.tk_script.specs.Records.{most_bytes}
use Rattle.tk_script.specs.declared.script_error.ScriptError.{ScriptError}
use Rattle.tk_script.specs.declared.script_error.ScriptError.TheVariants as errors

-- the text of the fault of one record
abbrev pub record_text : ℕ → List ℕ → List ℕ
record_text row what = codes "record " ++ decimal row ++ what

-- the text of a fault
abbrev pub script_text : ScriptError → List ℕ
script_text errors.TooLarge = codes "larger than " ++ decimal most_bytes ++ codes " bytes"
script_text errors.Empty = codes "no record"
script_text (errors.Opening row) = record_text row (codes ": not a valid opening")
script_text (errors.Word row) = record_text row (codes ": unknown word")
script_text (errors.Fields row) = record_text row (codes ": wrong number of fields")
script_text (errors.Number row) = record_text row (codes ": not a number in range")
script_text (errors.Counter row fault) = record_text row (codes ": " ++ fault_text fault)
script_text errors.Memory = codes "out of memory"

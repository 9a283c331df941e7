-- The remaining records of a text, for both ways of reading it: by csv's reader, or as plain lines.
use Rattle.std.specs.Prelude.{◌≡◌, ◌⊎◌, ℕ, List, [], ◌∷◌, Option, None, Some, true, Result, Ok, Err, unwrap_or}
use Rattle.csv.specs.Records as csv
use Rattle.csv.specs.declared.parser.State.TheVariants.{StartRecord}
use Rattle.tk_script.specs.Plain.{IsPlain, cut_at_commas}
use Rattle.tk_script.specs.Reading.{IsReading, Takes, left_of}
use Rattle.tk_script.specs.Records.{records_after}
use Rattle.tk_script.specs.declared.records.Records.{Records}
use Rattle.tk_script.specs.declared.records.Records.TheVariants.{Quoted, Plain}
use Rattle.tk_script.specs.declared.script_error.ScriptError.{ScriptError}
use Rattle.tk_script.specs.declared.script_error.ScriptError.TheVariants as errors

-- csv's reader is ready for the next record, or the remaining text is plain
abbrev pub IsCursor : Records → Type 0
IsCursor (Quoted quoted) = IsReading quoted.reader
IsCursor (Plain lines) = IsPlain lines.rest.now

-- the remaining records; `None` means that csv's reader has failed
abbrev pub left_in : Records → Option (List (List (List ℕ)))
left_in (Quoted quoted) = left_of quoted.reader
left_in (Plain lines) = Some (records_after StartRecord lines.rest.now)

-- the same records, and none if csv's reader has failed
abbrev pub remaining : Records → List (List (List ℕ))
remaining records = unwrap_or (left_in records) []

-- the fields of the record that was read last
abbrev pub fields_of : Records → List (List ℕ)
fields_of (Quoted quoted) = csv.fields_of quoted.fields
fields_of (Plain lines) = cut_at_commas lines.line.now

-- a step took the next record, which `parse` parses to `value` whatever the record's number, and left
-- the other records
abbrev pub TakesGiving : {A : Type 0} → (ℕ → List (List ℕ) → Result A ScriptError) → A → Records →
    Records → Type 0
TakesGiving parse value old new = IsCursor new
    × ((records : List (List (List ℕ))) → left_in old ≡ Some records
    → (fields : List (List ℕ)) × Takes true fields records (left_in new)
    × ((n : ℕ) → parse n fields ≡ Ok value))

-- a step took the first of these records, which `parse` parses to this value, and left the others;
-- `None` means that there was no record
abbrev pub NextGives : {A : Type 0} → (List (List ℕ) → Result A ScriptError) →
    List (List (List ℕ)) → Option A → Option (List (List (List ℕ))) → Type 0
NextGives parse records None left = records ≡ []
NextGives parse records (Some value) left = (fields : List (List ℕ)) × (rest : List (List (List ℕ)))
    × (records ≡ fields ∷ rest) × (left ≡ Some rest) × (parse fields ≡ Ok value)

-- the error is an allocation failure, or the fault of the first of these records
abbrev pub NextFails : {A : Type 0} → (List (List ℕ) → Result A ScriptError) →
    List (List (List ℕ)) → ScriptError → Type 0
NextFails parse records error = (error ≡ errors.Memory)
    ⊎ ((fields : List (List ℕ)) × (rest : List (List (List ℕ))) × (records ≡ fields ∷ rest)
    × (parse fields ≡ Err error))

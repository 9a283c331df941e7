-- The records that csv's reader of a script's bytes has not read yet.
use Rattle.std.specs.Prelude.{◌≡◌, ℕ, List, [], ◌∷◌, Option, Some, Bool, true, false, option_map}
use Rattle.std.specs.Borrow.{Bor}
use Rattle.csv.specs.Reading.{Ready, default_config, is_flexible, reader_config, reader_state, reader_trim, source_of}
use Rattle.csv.specs.declared.error.ErrorKind.{ErrorKind}
use Rattle.csv.specs.declared.error.ErrorKind.TheVariants as kinds
use Rattle.csv.specs.declared.reader.Reader.{Reader}
use Rattle.csv.specs.declared.reader.Trim.TheVariants as trim
use Rattle.tk_script.specs.Records.{records_after}

-- csv's reader of bytes in memory
abbrev pub SliceReader : Type 0
SliceReader = Reader (Bor (List ℕ))

-- the reader is ready, uses csv's default configuration, accepts records of any number of fields,
-- and trims nothing
abbrev pub IsReading : SliceReader → Type 0
IsReading reader =
    (reader_trim reader ≡ trim.None) × Ready reader × (reader_config reader ≡ default_config)
    × (is_flexible reader ≡ true)

-- the reasons why such a read can fail: an allocation failed, or the underlying bytes could not be
-- read (bytes in memory always can)
abbrev pub IsWantOfMemory : ErrorKind → Type 0
IsWantOfMemory kinds.OutOfMemory = Unit {0}
IsWantOfMemory (kinds.Io error) = Unit {0}
IsWantOfMemory (kinds.UnequalLengths place expected len) = ⊥
IsWantOfMemory (kinds.Utf8 place error) = ⊥
IsWantOfMemory (kinds.Serialize text) = ⊥
IsWantOfMemory (kinds.Deserialize place error) = ⊥

-- the remaining records; `None` means that the reader has failed
abbrev pub left_of : SliceReader → Option (List (List (List ℕ)))
left_of reader =
    option_map (records_after (reader_state reader)) (source_of (λ bytes. Some bytes.now) reader)

-- a read found a record with these fields and left the other records, or there was no record
abbrev pub Takes : Bool → List (List ℕ) → List (List (List ℕ)) → Option (List (List (List ℕ))) →
    Type 0
Takes true fields records left = (rest : List (List (List ℕ))) × (records ≡ fields ∷ rest)
    × (left ≡ Some rest)
Takes false fields records left = records ≡ []

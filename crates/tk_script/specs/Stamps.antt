-- The meaning of a stamp file: every record contains a front and a stamp.
use Rattle.std.specs.Prelude.{ℕ, List, length, map, Result, Ok, Err, ◌==◌, nat_lt, if◌then◌else◌}
use Rattle.tk_script.specs.Field.{◌>>=◌, number_at}
use Rattle.tk_script.specs.Records.{each, records_of, most_bytes}
use Rattle.tk_script.specs.declared.script_error.ScriptError.{ScriptError}
use Rattle.tk_script.specs.declared.script_error.ScriptError.TheVariants as errors
use Rattle.tk_script.specs.declared.stamps.Stamps.{Stamps}

-- the front (a number of accepted commands) and the stamp (a reading, in cycles) of the record
-- `row`
unfoldable pub stamp_of : ℕ → List (List ℕ) → Result (ℕ × ℕ) ScriptError
stamp_of row fields =
    if length fields == 2 then (do
      front ← number_at row fields 0
      stamp ← number_at row fields 1
      Ok (front, stamp))
    else Err (errors.Fields row)

-- the content of a stamp file, regardless of its place in memory
pub record Items : Type 0 where
  -- the front of each item, and in the same order the stamp of each item
  pub fronts : List ℕ
  pub stamps : List ℕ

-- the fronts and the stamps of these pairs, in two lists
abbrev pub items_of : List (ℕ × ℕ) → Items
items_of pairs =
    record { fronts = map (λ (p : ℕ × ℕ). p.0) pairs; stamps = map (λ (p : ℕ × ℕ). p.1) pairs }

-- the items of these records, of which the first is the record `row`, or their first fault
abbrev pub items_in : ℕ → List (List (List ℕ)) → Result Items ScriptError
items_in row records = each stamp_of row records >>= λ pairs. Ok (items_of pairs)

-- the content of a stamp file with these bytes; a file without a record has no items
unfoldable pub stamps_of : List ℕ → Result Items ScriptError
stamps_of bytes =
    if nat_lt most_bytes (length bytes) then Err errors.TooLarge
    else items_in 1 (records_of bytes)

-- the items that a `Stamps` contains
abbrev pub items : Stamps → Items
items value = record { fronts = value.fronts.items; stamps = value.stamps.items }

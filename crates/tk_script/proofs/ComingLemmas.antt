-- The rows that a row reader has not read yet, from one record to the next.
use Rattle.std.proofs.Common.{◌≡◌, ◌∙◌, ◌≤◌, ◌+◌, ℕ, zero, suc, List, [], ◌∷◌, length, Option, Some, None, IsSome, Bool, true, false, Result, Ok, Err, IsOk, refl, sym, ap, arith, cond, ◌++◌, append_assoc}
use Rattle.csv.specs.Machine.{Read, next_record}
use Rattle.csv.specs.Reading.{default_config, is_bom, records_from, records_next, strip_bom}
use Rattle.csv.specs.declared.parser.Config.{Config}
use Rattle.csv.specs.declared.parser.State.{State}
use Rattle.csv.specs.declared.parser.State.TheVariants.{StartRecord}
use Rattle.tk_script.specs.Coming.{IsReady, coming, opened_with, records_left, row_and}
use Rattle.tk_script.specs.Field.{◌>>=◌}
use Rattle.tk_script.specs.Grammar.{Parse, parse_records}
use Rattle.tk_script.specs.Opening.{start_of}
use Rattle.tk_script.specs.Cursor.{IsCursor, left_in}
use Rattle.tk_script.specs.Records.{each, records_of, most_bytes}
use Rattle.tk_script.specs.Rows.{row_of, rows_of}
use Rattle.tk_script.specs.declared.opening.Start.{Start}
use Rattle.tk_script.specs.declared.row.Row.{Row}
use Rattle.tk_script.specs.declared.row_reader.RowReader.{RowReader}
use Rattle.tk_script.specs.declared.script_error.ScriptError.{ScriptError}

-- rows, followed by the rows of a later reading, or the fault of that reading
abbrev pub rows_and : List Row → Result (List Row) ScriptError → Result (List Row) ScriptError
rows_and before (Ok later) = Ok (before ++ later)
rows_and before (Err fault) = Err fault

-- there are at most as many records as steps
records_from-few : (cfg : Config) (n : ℕ) (s : State) (xs : List ℕ) →
    length (records_from cfg n s xs) ≤ n
unfolding records_from
records_from-few cfg zero s xs = omega arith
records_from-few cfg (suc n) s xs = by (next_record cfg s [] [] xs) (records_from-few cfg n)
  where
    by : (o : Option Read) → ((t : State) (ys : List ℕ) → length (records_from cfg n t ys) ≤ n)
        → length (records_next (records_from cfg n) o) ≤ suc n
    by None few = omega arith
    by (Some p) few = let less = few p.1 p.2 in omega arith

-- removing a byte order mark makes a text no longer
strip_bom-shorter : (xs : List ℕ) → length (strip_bom xs) ≤ length xs
unfolding strip_bom
strip_bom-shorter [] = omega arith
strip_bom-shorter (a ∷ []) = omega arith
strip_bom-shorter (a ∷ b ∷ []) = omega arith
strip_bom-shorter (a ∷ b ∷ c ∷ rest) = by (is_bom a b c)
  where
    by : (is_mark : Bool) →
        length (cond is_mark rest (a ∷ b ∷ c ∷ rest)) ≤ length (a ∷ b ∷ c ∷ rest)
    by true = omega arith
    by false = omega arith

-- a text has at most one record more than it has bytes
pub records_of-few : (bytes : List ℕ) → length (records_of bytes) ≤ length bytes + 1
records_of-few bytes =
    let few = records_from-few default_config (length (strip_bom bytes) + 1) StartRecord
    (strip_bom bytes) in
    let shorter = strip_bom-shorter bytes in
    omega arith

-- the remaining records, if the reader has not failed
left-some : (o : Option (List (List (List ℕ)))) → IsSome o →
    (left : List (List (List ℕ))) × (o ≡ Some left)
left-some (Some left) h = (left, refl)
left-some None h = cc h

pub left-known : (reader : RowReader) → IsReady reader →
    (left : List (List (List ℕ))) × (left_in reader.records ≡ Some left)
left-known reader ready = left-some (left_in reader.records) ready.left

-- the remaining rows and their number, by the remaining records
coming-left : (reader : RowReader) (left : List (List (List ℕ))) → left_in reader.records ≡ Some left
    → coming reader ≡ rows_of reader.row left
unfolding coming
coming-left reader left e = rw e refl

records_left-left : (reader : RowReader) (left : List (List (List ℕ))) →
    left_in reader.records ≡ Some left
    → records_left reader ≡ length left
unfolding records_left
records_left-left reader left e = rw e refl

-- the reader after the opening
pub ready-open : (reader : RowReader) (bytes : List ℕ) (first : List (List ℕ))
    (left : List (List (List ℕ)))
    → IsCursor reader.records → left_in reader.records ≡ Some left → reader.row ≡ 2
    → records_of bytes ≡ first ∷ left → length bytes ≤ most_bytes → IsReady reader
ready-open reader bytes first left reading e two split small =
    let few : length (records_of bytes) ≤ length bytes + 1 = records_of-few bytes in
    let one : length (records_of bytes) ≡ suc (length left) = ap length split in
    let count = records_left-left reader left e in
    record { reading = reading; left = rw e refl; count = omega (arith, two) }

pub parse-open : (reader : RowReader) (start : Start) (records left : List (List (List ℕ)))
    (first : List (List ℕ))
    → left_in reader.records ≡ Some left → reader.row ≡ 2 → records ≡ first ∷ left →
    start_of first ≡ Ok start
    → parse_records records ≡ opened_with start (coming reader)
unfolding parse_records
parse-open reader start records left first e two split given =
    rw (split, given, coming-left reader left e, two) (by (rows_of 2 left))
  where
    by : (rows : Result (List Row) ScriptError)
        → (rows >>= λ given.
        Ok (record { start = start; rows = given })) ≡ opened_with start rows
    by (Ok rows) = refl
    by (Err fault) = refl

-- no record remains
pub coming-none : (reader : RowReader) (left : List (List (List ℕ))) →
    left_in reader.records ≡ Some left → left ≡ []
    → coming reader ≡ Ok []
unfolding each
coming-none reader left e none = coming-left reader left e ∙ rw none refl

-- the next record has a fault
pub coming-fault : (reader : RowReader) (left later : List (List (List ℕ))) (first : List (List ℕ))
    (fault : ScriptError)
    → left_in reader.records ≡ Some left → left ≡ first ∷ later → row_of reader.row first ≡ Err fault
    → coming reader ≡ Err fault
unfolding each
coming-fault reader left later first fault e split given = coming-left reader left e
    ∙ rw (split, given) refl

-- the next record gives a row
pub coming-row : (old new : RowReader) (left later : List (List (List ℕ))) (first : List (List ℕ))
    (row : Row)
    → left_in old.records ≡ Some left → left ≡ first ∷ later → row_of old.row first ≡ Ok row
    → left_in new.records ≡ Some later → new.row ≡ old.row + 1 →
    coming old ≡ row_and row (coming new)
unfolding each
coming-row old new left later first row e split given rest next =
    coming-left old left e
    ∙ rw (split, given, coming-left new later rest, next) (by (rows_of (old.row + 1) later))
  where
    by : (rows : Result (List Row) ScriptError) →
        (rows >>= λ given. Ok (row ∷ given)) ≡ row_and row rows
    by (Ok rows) = refl
    by (Err fault) = refl

pub left-row : (old new : RowReader) (left later : List (List (List ℕ))) (first : List (List ℕ))
    → left_in old.records ≡ Some left → left ≡ first ∷ later → left_in new.records ≡ Some later
    → records_left old ≡ records_left new + 1
left-row old new left later first e split rest =
    records_left-left old left e ∙ ap length split
    ∙ rw (records_left-left new later rest) (omega arith)

pub ready-row : (old new : RowReader) (later : List (List (List ℕ)))
    → IsReady old → records_left old ≡ records_left new + 1 → IsCursor new.records →
    left_in new.records ≡ Some later
    → new.row ≡ old.row + 1 → IsReady new
ready-row old new later ready one reading rest next =
    record { reading = reading; left = rw rest refl; count = omega (arith, ready.count, one, next) }

-- appending a row to the earlier rows after its read doesn't change the result of the whole
pub opened-row : (whole : Result Parse ScriptError) (start : Start) (before before' : List Row)
    (row : Row) (old new : RowReader)
    → whole ≡ opened_with start (rows_and before (coming old)) →
    coming old ≡ row_and row (coming new)
    → before' ≡ before ++ row ∷ [] → whole ≡ opened_with start (rows_and before' (coming new))
opened-row whole start before before' row old new given step e = given ∙ rw (step, e) (by (coming new))
  where
    by : (rows : Result (List Row) ScriptError)
        → opened_with start (rows_and before (row_and row rows))
        ≡ opened_with start (rows_and (before ++ row ∷ []) rows)
    by (Ok rows) =
        ap (λ (all : List Row). opened_with start (Ok all))
        (sym (append_assoc before (row ∷ []) rows))
    by (Err fault) = refl

-- a reading of rows goes on as a later reading: it has the fault of the later one, and none if that
-- has none
pub record Continues (all later : Result (List Row) ScriptError) : Type 0 where
  pub whole : IsOk later → IsOk all
  pub fault : (error : ScriptError) → later ≡ Err error → all ≡ Err error

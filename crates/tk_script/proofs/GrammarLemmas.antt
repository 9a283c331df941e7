-- The result for a whole script, from the results for its parts.
use Rattle.std.proofs.Common.{◌≡◌, ◌<◌, ◌≤◌, ℕ, List, [], ◌∷◌, length, Result, Err, refl}
use Rattle.std.proofs.lemmas.Bool.{lt-ltb, le-ltb}
use Rattle.tk_script.specs.Opening.{start_of}
use Rattle.tk_script.specs.Records.{records_of, most_bytes}
use Rattle.tk_script.specs.Grammar.{parse_of, parse_records, Fails}
use Rattle.tk_script.specs.declared.script_error.ScriptError.{ScriptError}
use Rattle.tk_script.specs.declared.script_error.ScriptError.TheVariants as errors

-- an error of the reading is an error that `Fails` allows
pub fails-from : {Y : Type 0} (e : ScriptError) (read : Result Y ScriptError) → read ≡ Err e →
    Fails e read
fails-from errors.Memory read h = tt
fails-from errors.TooLarge read h = h
fails-from errors.Empty read h = h
fails-from (errors.Opening row) read h = h
fails-from (errors.Word row) read h = h
fails-from (errors.Fields row) read h = h
fails-from (errors.Number row) read h = h
fails-from (errors.Counter row fault) read h = h

-- a script with too many bytes
pub parse-large : (bytes : List ℕ) → most_bytes < length bytes → parse_of bytes ≡ Err errors.TooLarge
unfolding parse_of
parse-large bytes h = rw (lt-ltb most_bytes (length bytes) h) refl

-- a script with at most 16,777,216 bytes
pub parse-small : (bytes : List ℕ) → length bytes ≤ most_bytes →
    parse_of bytes ≡ parse_records (records_of bytes)
unfolding parse_of
parse-small bytes h = rw (le-ltb most_bytes (length bytes) h) refl

-- a script without a record
pub parse-none : (records : List (List (List ℕ))) → records ≡ [] →
    parse_records records ≡ Err errors.Empty
unfolding parse_records
parse-none records e = rw e refl

-- a fault of the opening is the fault of the whole script
pub parse-start_fault : (records later : List (List (List ℕ))) (first : List (List ℕ))
    (fault : ScriptError)
    → records ≡ first ∷ later → start_of first ≡ Err fault → parse_records records ≡ Err fault
unfolding parse_records
parse-start_fault records later first fault e f = rw (e, f) refl

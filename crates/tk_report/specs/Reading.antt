-- Reading an input to its end or to a limit, and the reasons why reading stops earlier.
use Rattle.std.specs.Prelude.{◌≡◌, ℕ, ◌+◌, ◌≤◌, List, length, Option, None, ◌⊎◌}
use Rattle.std.specs.Io.KnownBytes.{Consumes, IsAtEnd}
use Rattle.tk_script.specs.Records.{most_bytes}
use Rattle.tk_report.specs.declared.fault.Fault.{Fault}
use Rattle.tk_report.specs.declared.fault.Fault.TheVariants as faults

-- the most bytes that are read from an input: one more than the largest script or stamp file
abbrev pub most_read : ℕ
most_read = most_bytes + 1

-- at most `most_read` bytes were read
abbrev pub IsReadWithin : Option (List ℕ) → Option (List ℕ) → Type 0
IsReadWithin old new = (bytes : List ℕ) × Consumes old new bytes × (length bytes ≤ most_read)

-- exactly these bytes were read: all bytes of the input, or `most_read` of them
abbrev pub IsReadToEnd : Option (List ℕ) → Option (List ℕ) → List ℕ → Type 0
IsReadToEnd old new bytes =
    Consumes old new bytes × (length bytes ≤ most_read)
    × ((length bytes ≡ most_read) ⊎ IsAtEnd new)

-- the last read failed, by the relation `read_gives` between each read and its result, and left the
-- source in this state
abbrev pub ReadFailed : {S : Type 0} → (S → Option ℕ → S → Type 0) → S → Type 0
ReadFailed {S} read_gives now = (before : S) × read_gives before None now

-- reading stopped before the end, because a read failed or an allocation failed
abbrev pub StopsReading : Type 0 → Fault → Type 0
StopsReading failed faults.Read = failed
StopsReading failed faults.Memory = Unit {0}
StopsReading failed (faults.Script error) = ⊥
StopsReading failed (faults.Stamps error) = ⊥
StopsReading failed (faults.Trace error) = ⊥
StopsReading failed (faults.Write written) = ⊥

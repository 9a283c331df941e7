-- A trace: the items of a stamp file, and a line for the value of each item in the journal of a
-- script; and the result of reading both inputs, converting the items and writing the lines.
use Rattle.std.specs.Prelude.{◌≡◌, ◌≢◌, ℕ, List, ◌++◌, flat_map, codes, decimal, Option, Bool, Result, Ok, Err, IsOk, ◌⊎◌}
use Rattle.tk_clock.specs.declared.clock_id.ClockId.{ClockId}
use Rattle.tk_clock.specs.Journal.{Journal}
use Rattle.tk_keeper.specs.declared.trace_error.TraceError.{TraceError}
use Rattle.tk_keeper.specs.Trace.{IsConverted, IsFirstFault}
use Rattle.tk_script.specs.declared.script_error.ScriptError.{ScriptError}
use Rattle.tk_script.specs.declared.script_error.ScriptError.TheVariants as errors
use Rattle.tk_script.specs.Grammar.{parse_of}
use Rattle.tk_script.specs.Stamps.{Items, stamps_of}
use Rattle.tk_report.specs.declared.fault.Fault.{Fault}
use Rattle.tk_report.specs.declared.fault.Fault.TheVariants as faults
use Rattle.tk_report.specs.AllRows.{IsJournalOf}
use Rattle.tk_report.specs.Fault.{fault_with}
use Rattle.tk_report.specs.Reading.{IsReadToEnd, IsReadWithin}
use Rattle.tk_report.specs.Replay.{CameTo}

-- the line of a value, in nanoseconds
abbrev pub value_line : ℕ → List ℕ
value_line nanos = decimal nanos ++ codes "\n"

-- the text of items: a line for the value of each item, in order
abbrev pub IsItemsText : ClockId → Journal → Items → List ℕ → Type 0
IsItemsText clock journal items text =
    (values : List ℕ) × IsConverted journal clock items.fronts items.stamps values
    × (text ≡ flat_map value_line values)

-- the fault of items: the fault of the first item with a fault
abbrev pub IsItemsFault : ClockId → Journal → Items → TraceError → Type 0
IsItemsFault clock journal items error =
    (index : ℕ) × IsFirstFault journal clock items.fronts items.stamps index error

-- a script's journal and the items of a stamp file, if neither has a fault, and a fact about both
abbrev pub AreRead : List ℕ → List ℕ → (Journal → Items → Type 0) → Type 0
AreRead script stamps Holds =
    (journal : Journal) × (items : Items)
    × IsJournalOf (parse_of script) journal × (stamps_of stamps ≡ Ok items)
    × Holds journal items

-- the fault for an error of a stamp file
abbrev pub fault_of_stamps : ScriptError → Fault
fault_of_stamps error = fault_with faults.Stamps error

-- the trace of a script with these bytes and of a stamp file with these bytes
abbrev pub IsTrace : ClockId → List ℕ → List ℕ → List ℕ → Type 0
IsTrace clock script stamps text =
    AreRead script stamps (λ journal items. IsItemsText clock journal items text)

-- the fault of such bytes: the script's, then the stamp file's, then the items'
abbrev pub IsTraceFault : ClockId → List ℕ → List ℕ → Fault → Type 0
IsTraceFault clock script stamps (faults.Script error) =
    (parse_of script ≡ Err error) × (error ≢ errors.Memory)
IsTraceFault clock script stamps (faults.Stamps error) =
    IsOk (parse_of script) × (stamps_of stamps ≡ Err error) × (error ≢ errors.Memory)
IsTraceFault clock script stamps (faults.Trace error) =
    AreRead script stamps (λ journal items. IsItemsFault clock journal items error)
IsTraceFault clock script stamps faults.Read = ⊥
IsTraceFault clock script stamps faults.Memory = ⊥
IsTraceFault clock script stamps (faults.Write written) = ⊥

-- the bytes that were read from one input and then from another, both to the end or to the reading
-- limit, and a fact about both
abbrev pub AreReadToEnd : (unread left later_unread later_left : Option (List ℕ)) →
    (List ℕ → List ℕ → Type 0) → Type 0
AreReadToEnd unread left later_unread later_left Holds =
    (first : List ℕ) × (later : List ℕ)
    × IsReadToEnd unread left first × IsReadToEnd later_unread later_left later
    × Holds first later

-- the last read of two inputs failed: either a read of the first input, and the other input is
-- unchanged; or a read of the other input, after the first one was read to its end or to the
-- reading limit
abbrev pub EitherFailed : Option (List ℕ) → Option (List ℕ) → Type 0 → Type 0 → Type 0 → Type 0
EitherFailed unread left failed same later_failed =
    (failed × same) ⊎ (((bytes : List ℕ) × IsReadToEnd unread left bytes) × later_failed)

-- the result of a trace: `unread` and `left` are the remaining bytes of the script's reader before
-- and after, `stamps_unread` and `stamps_left` the remaining bytes of the stamps' reader, and
-- `read` states that the last read of them failed
pub record IsTraceDone
    {W : Type 0} (clock : ClockId)
    (unread left stamps_unread stamps_left : Option (List ℕ)) (read : Type 0)
    (contents : W → Option (List ℕ)) (write_gives : W → List ℕ → Option ℕ → W → Type 0)
    (flush_gives : W → Bool → W → Type 0) (old new : W) (result : Result Unit Fault) : Type 0 where
  pub script_within : IsReadWithin unread left
  pub stamps_within : IsReadWithin stamps_unread stamps_left
  pub came_to : CameTo
      (λ text. AreReadToEnd unread left stamps_unread stamps_left
      (λ script stamps. IsTrace clock script stamps text))
      (λ fault. AreReadToEnd unread left stamps_unread stamps_left
      (λ script stamps. IsTraceFault clock script stamps fault))
      read contents write_gives flush_gives old new result

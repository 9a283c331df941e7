-- The result of converting a trace: the value of a clock at each stamp, in the journal as it was at
-- the stamp's front.
use Rattle.std.specs.Prelude.{◌≡◌, ℕ, ◌+◌, ◌<◌, ◌≤◌, ⊤, pos, ℤ, List, length, slice_index, Result, Ok, Err, IsOk}
use Rattle.tk_clock.specs.declared.clock_id.ClockId.{ClockId}
use Rattle.tk_clock.specs.declared.refusal.ReadError.{ReadError}
use Rattle.tk_clock.specs.Journal.{Journal}
use Rattle.tk_clock.specs.Read.{read_of}
use Rattle.tk_clock.specs.State.{ReadBase}
use Rattle.tk_lanes.specs.declared.batch_error.BatchError.{BatchError}
use Rattle.tk_lanes.specs.declared.batch_error.BatchError.TheVariants as batch
use Rattle.tk_keeper.specs.declared.trace_error.TraceError.{TraceError}
use Rattle.tk_keeper.specs.declared.trace_error.TraceError.TheVariants as errors
use Rattle.tk_keeper.specs.Item.{item, fault_of_stamp}

-- the result of the item at a place of a trace
abbrev pub item_of : Journal → ClockId → List ℕ → List ℕ → ℕ → Result ℤ TraceError
item_of journal clock fronts stamps index =
    item journal clock index (slice_index fronts index) (slice_index stamps index)

-- the item at each place before `end` has this value, in nanoseconds
abbrev pub AreValues : Journal → ClockId → List ℕ → List ℕ → ℕ → List ℕ → Type 0
AreValues journal clock fronts stamps end values =
    (k : ℕ) → k < end → item_of journal clock fronts stamps k ≡ Ok (pos (slice_index values k))

-- the items before `end` are written, and the memory after them is unchanged
pub record IsWritten (journal : Journal) (clock : ClockId) (fronts stamps : List ℕ) (end : ℕ)
    (old new : List ℕ) : Type 0 where
  pub values : AreValues journal clock fronts stamps end new
  pub others : (k : ℕ) → end ≤ k → slice_index new k ≡ slice_index old k

-- the first item with a fault is at `index`, and `error` is its fault
pub record IsFirstFault (journal : Journal) (clock : ClockId) (fronts stamps : List ℕ) (index : ℕ)
    (error : TraceError) : Type 0 where
  pub within : index < length stamps
  pub fault : item_of journal clock fronts stamps index ≡ Err error
  pub before : (k : ℕ) → k < index → IsOk (item_of journal clock fronts stamps k)

-- a trace that is converted into the caller's memory up to a place: all items before it, or the
-- items before the first fault
abbrev pub IsTracedTo : ℕ → Journal → ClockId → List ℕ → List ℕ → List ℕ → List ℕ →
    Result ⊤ TraceError → Type 0
IsTracedTo end journal clock fronts stamps old new (Ok done) =
    IsWritten journal clock fronts stamps end old new
IsTracedTo end journal clock fronts stamps old new (Err error) =
    (index : ℕ) × IsFirstFault journal clock fronts stamps index error
    × IsWritten journal clock fronts stamps index old new

-- the same, for all items
abbrev pub IsTraced : Journal → ClockId → List ℕ → List ℕ → List ℕ → List ℕ →
    Result ⊤ TraceError → Type 0
IsTraced journal clock fronts stamps =
    IsTracedTo (length stamps) journal clock fronts stamps

-- a trace that is converted whole: the value of each item, in order
abbrev pub IsConverted : Journal → ClockId → List ℕ → List ℕ → List ℕ → Type 0
IsConverted journal clock fronts stamps values =
    (length values ≡ length stamps) × AreValues journal clock fronts stamps (length stamps) values

-- why a trace isn't converted: an allocation failure, if it has items, or its first fault
abbrev pub IsFault : Journal → ClockId → List ℕ → List ℕ → TraceError → Type 0
IsFault journal clock fronts stamps errors.Memory = 0 < length stamps
IsFault journal clock fronts stamps error =
    (index : ℕ) × IsFirstFault journal clock fronts stamps index error

-- the result of an item, from a read of a clock of its front's snapshot at its stamp
abbrev pub stated : ℕ → Result ℕ ReadError → Result ℤ TraceError
stated index (Ok nanos) = Ok (pos nanos)
stated index (Err error) = Err (fault_of_stamp index error)

-- a read base gives the result of every item of a front
abbrev pub ConvertsItems : Journal → ℕ → ReadBase → Type 0
ConvertsItems journal front base = (clock : ClockId) (index stamp : ℕ) →
    item journal clock index front stamp ≡ stated index (read_of base clock stamp)

-- the place of the stamp that a batch refused
abbrev pub place_of : BatchError → ℕ
place_of (batch.Invalid index) = index
place_of (batch.Range index) = index

-- the fault of a trace, from the fault of a batch that begins at place `first` of the trace
abbrev pub fault_of_batch : ℕ → BatchError → TraceError
fault_of_batch first (batch.Invalid index) = errors.Invalid (first + index)
fault_of_batch first (batch.Range index) = errors.Range (first + index)

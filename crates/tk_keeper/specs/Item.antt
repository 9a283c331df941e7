-- An item of a trace: the value of a clock at a stamp, in the journal as it was at a front.
use Rattle.std.specs.Prelude.{ℕ, ℤ, Option, Some, None, Result, Ok, Err}
use Rattle.tk_clock.specs.declared.clock_id.ClockId.{ClockId}
use Rattle.tk_clock.specs.declared.refusal.ReadError.{ReadError}
use Rattle.tk_clock.specs.declared.refusal.ReadError.TheVariants.{Invalid, Range}
use Rattle.tk_clock.specs.Clocks.{clock_value}
use Rattle.tk_clock.specs.Journal.{Journal}
use Rattle.tk_keeper.specs.declared.front_error.FrontError.{FrontError}
use Rattle.tk_keeper.specs.declared.front_error.FrontError.TheVariants.{Unknown, Folded}
use Rattle.tk_keeper.specs.declared.trace_error.TraceError.{TraceError}
use Rattle.tk_keeper.specs.declared.trace_error.TraceError.TheVariants as errors
use Rattle.tk_keeper.specs.Past.{at_front, front_refusal}
use Rattle.tk_keeper.specs.Read.{read_fault}

-- the fault of an item because of its front, with the item's place in the trace
abbrev pub fault_of_front : ℕ → FrontError → TraceError
fault_of_front index Unknown = errors.Unknown index
fault_of_front index Folded = errors.Folded index

-- the fault of an item because of its stamp, with the item's place in the trace
abbrev pub fault_of_stamp : ℕ → ReadError → TraceError
fault_of_stamp index Invalid = errors.Invalid index
fault_of_stamp index Range = errors.Range index

-- the value in nanoseconds, or the fault of the stamp
abbrev pub item_at : ℕ → ℤ → Option ReadError → Result ℤ TraceError
item_at index value None = Ok value
item_at index value (Some error) = Err (fault_of_stamp index error)

-- the result for the stamp, or the fault of the front
abbrev pub item_unless : ℕ → Result ℤ TraceError → Option FrontError → Result ℤ TraceError
item_unless index stated None = stated
item_unless index stated (Some error) = Err (fault_of_front index error)

-- the result of the item of a front and a stamp; a fault of the front comes first
abbrev pub item : Journal → ClockId → ℕ → ℕ → ℕ → Result ℤ TraceError
item journal clock index front stamp =
    let there = at_front front journal in
    item_unless index (item_at index (clock_value there clock stamp) (read_fault there clock stamp))
    (front_refusal journal front)

-- The result of converting a trace in pieces, on several threads.
use Rattle.std.specs.Prelude.{◌≡◌, ℕ, ℤ, ◌+◌, ◌*◌, ◌<◌, ⊤, pos, List, length, slice_index, Result, Ok, Err}
use Rattle.std.specs.Fork.{slice_chunk}
use Rattle.tk_clock.specs.declared.clock_id.ClockId.{ClockId}
use Rattle.tk_clock.specs.Journal.{Journal}
use Rattle.tk_keeper.specs.declared.trace_error.TraceError.{TraceError}
use Rattle.tk_keeper.specs.Trace.{item_of, AreValues, IsFirstFault}

-- a trace that is converted into the caller's memory up to a place: all items before it, or the
-- items before the first fault; the contents of the memory at the fault and after it are not
-- specified
abbrev pub IsTracedUpTo : ℕ → Journal → ClockId → List ℕ → List ℕ → List ℕ →
    Result ⊤ TraceError → Type 0
IsTracedUpTo end journal clock fronts stamps new (Ok done) =
    AreValues journal clock fronts stamps end new
IsTracedUpTo end journal clock fronts stamps new (Err error) =
    (index : ℕ) × IsFirstFault journal clock fronts stamps index error
    × AreValues journal clock fronts stamps index new

-- the same, for all items
abbrev pub IsTracedInPieces : Journal → ClockId → List ℕ → List ℕ → List ℕ →
    Result ⊤ TraceError → Type 0
IsTracedInPieces journal clock fronts stamps =
    IsTracedUpTo (length stamps) journal clock fronts stamps

-- the result of each item of a trace, by its place
abbrev pub Items : Type 0
Items = ℕ → Result ℤ TraceError

-- the words contain the values of the items starting at place `at`, in nanoseconds
abbrev pub HoldFrom : Items → ℕ → List ℕ → Type 0
HoldFrom item at words =
    (k : ℕ) → k < length words → item (at + k) ≡ Ok (pos (slice_index words k))

-- the first word of a piece in which an item has a fault
abbrev pub refused_mark : ℕ
refused_mark = 18446744073709551615

-- a piece that begins at place `at` of the list: unless it is marked, it contains the values of all
-- its items
abbrev pub IsPiece : Journal → ClockId → List ℕ → List ℕ → ℕ → List ℕ → Type 0
IsPiece journal clock fronts stamps at piece =
    slice_index piece 0 < refused_mark → HoldFrom (item_of journal clock fronts stamps) at piece

-- all pieces of the list starting at place `first`, by the number of items of a piece
abbrev pub ArePieces : ℕ → ℕ → Journal → ClockId → List ℕ → List ℕ → List ℕ → Type 0
ArePieces size first journal clock fronts stamps out =
    (n : ℕ) → n * size < length out →
    IsPiece journal clock fronts stamps (first + n * size) (slice_chunk out size n)

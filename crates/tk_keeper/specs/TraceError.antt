-- The texts of the faults of a trace.
use Rattle.std.specs.Prelude.{ℕ, List, ◌++◌, Option, Some, codes, decimal}
use Rattle.tk_keeper.specs.declared.trace_error.TraceError.{TraceError}
use Rattle.tk_keeper.specs.declared.trace_error.TraceError.TheVariants as errors

-- the text of a fault, with the number of its item
abbrev pub trace_text : TraceError → Option (List ℕ)
trace_text (errors.Unknown index) = Some (codes "item " ++ decimal index ++ codes ": unknown front")
trace_text (errors.Folded index) = Some (codes "item " ++ decimal index ++ codes ": folded front")
trace_text (errors.Invalid index) =
    Some (codes "item " ++ decimal index ++ codes ": stamp above the mask")
trace_text (errors.Range index) =
    Some (codes "item " ++ decimal index ++ codes ": value out of range")
trace_text errors.Memory = Some (codes "out of memory")

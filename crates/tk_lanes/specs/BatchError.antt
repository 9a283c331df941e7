-- The faults of a list of stamps, and their texts.
use Rattle.std.specs.Prelude.{ℕ, List, ◌++◌, Option, Some, codes, decimal}
use Rattle.tk_clock.specs.declared.refusal.ReadError.{ReadError}
use Rattle.tk_clock.specs.declared.refusal.ReadError.TheVariants.{Invalid, Range}
use Rattle.tk_lanes.specs.declared.batch_error.BatchError.{BatchError}
use Rattle.tk_lanes.specs.declared.batch_error.BatchError.TheVariants as errors

-- the fault of a list whose stamp at `index` is refused
abbrev pub refused_at : ℕ → ReadError → BatchError
refused_at index Invalid = errors.Invalid index
refused_at index Range = errors.Range index

-- the text of a fault, with the place of its stamp
abbrev pub batch_text : BatchError → Option (List ℕ)
batch_text (errors.Invalid index) =
    Some (codes "item " ++ decimal index ++ codes ": stamp above the mask")
batch_text (errors.Range index) =
    Some (codes "item " ++ decimal index ++ codes ": value out of range")

-- The texts of a latch's errors.
use Rattle.std.specs.Prelude.{ℕ, ◌++◌, List, codes, decimal}
use Rattle.tk_latch.specs.declared.errors.LatchError.{LatchError}
use Rattle.tk_latch.specs.declared.errors.LatchError.TheVariants.{Count, Memory}

-- why a latch isn't opened
abbrev pub fault_text : LatchError → List ℕ
fault_text Count = codes "count out of range"
fault_text Memory = codes "out of memory"

-- why a snapshot isn't published
abbrev pub full_text : List ℕ
full_text = codes "page full"

-- why a read returned no snapshot: the two sequence numbers that it found
abbrev pub moved_text : ℕ → ℕ → List ℕ
moved_text first last = codes "moved from " ++ decimal first ++ codes " to " ++ decimal last

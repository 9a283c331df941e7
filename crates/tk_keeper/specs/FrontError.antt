-- The texts of the faults of a front.
use Rattle.std.specs.Prelude.{ℕ, List, codes}
use Rattle.tk_keeper.specs.declared.front_error.FrontError.{FrontError}
use Rattle.tk_keeper.specs.declared.front_error.FrontError.TheVariants.{Unknown, Folded}

-- the text of a fault
abbrev pub fault_text : FrontError → List ℕ
fault_text Unknown = codes "unknown front"
fault_text Folded = codes "folded front"

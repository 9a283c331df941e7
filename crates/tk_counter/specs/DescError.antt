-- The texts of the faults of a counter's description.
use Rattle.std.specs.Prelude.{ℕ, List, codes}
use Rattle.tk_counter.specs.declared.desc_error.DescError.{DescError}
use Rattle.tk_counter.specs.declared.desc_error.DescError.TheVariants.{Bits, Shift, Mult, Adjust, Rate}

-- the text of a fault
abbrev pub fault_text : DescError → List ℕ
fault_text Bits = codes "a reading does not have 8 to 64 bits"
fault_text Shift = codes "the shift is above 32"
fault_text Mult = codes "the mult is below 256"
fault_text Adjust = codes "the mult and 11 percent of it do not fit 32 bits"
fault_text Rate = codes "the frequency is 0 Hz or the span is not 1 to 600 seconds"

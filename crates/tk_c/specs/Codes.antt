-- The codes that a call returns to C: enum tkc_code of include/tkcore.h.
use Rattle.std.specs.Prelude.{ℕ}
use Rattle.tk_counter.specs.declared.desc_error.DescError.{DescError}
use Rattle.tk_counter.specs.declared.desc_error.DescError.TheVariants as faults
use Rattle.tk_clock.specs.declared.refusal.Refusal.{Refusal}
use Rattle.tk_clock.specs.declared.refusal.Refusal.TheVariants as refusals
use Rattle.tk_clock.specs.declared.refusal.ReadError.{ReadError}
use Rattle.tk_clock.specs.Refusal.{refusal_of}
use Rattle.tk_c.specs.declared.code.Code.{Code}
use Rattle.tk_c.specs.declared.code.Code.TheVariants.{Done, Full, Asleep, Awake, Invalid, Behind, Range, Memory, Further, Never, BadCommand, BadClock, BadWords, BadRoom, BadBits, BadShift, BadMult, BadAdjust, BadRate}

-- the number of a code
abbrev pub number_of : Code → ℕ
number_of Done = 0
number_of Full = 1
number_of Asleep = 2
number_of Awake = 3
number_of Invalid = 4
number_of Behind = 5
number_of Range = 6
number_of Memory = 7
number_of Further = 8
number_of Never = 9
number_of BadCommand = 16
number_of BadClock = 17
number_of BadWords = 18
number_of BadRoom = 19
number_of BadBits = 32
number_of BadShift = 33
number_of BadMult = 34
number_of BadAdjust = 35
number_of BadRate = 36

-- the code of a refused command
abbrev pub code_of_refusal : Refusal → Code
code_of_refusal refusals.Full = Full
code_of_refusal refusals.Asleep = Asleep
code_of_refusal refusals.Awake = Awake
code_of_refusal refusals.Invalid = Invalid
code_of_refusal refusals.Behind = Behind
code_of_refusal refusals.Range = Range
code_of_refusal refusals.Memory = Memory

-- the code of a refused read: that of a command that is refused for the same reason
abbrev pub code_of_read : ReadError → Code
code_of_read error = code_of_refusal (refusal_of error)

-- the code of a fault of a counter's description
abbrev pub code_of_fault : DescError → Code
code_of_fault faults.Bits = BadBits
code_of_fault faults.Shift = BadShift
code_of_fault faults.Mult = BadMult
code_of_fault faults.Adjust = BadAdjust
code_of_fault faults.Rate = BadRate

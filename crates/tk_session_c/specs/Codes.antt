-- The codes that calls return to C: those of include/tkcore.h that occur here, and those of
-- include/tkcore_session.h.
use Rattle.std.specs.Prelude.{ℕ}
use Rattle.tk_counter.specs.declared.desc_error.DescError.{DescError}
use Rattle.tk_counter.specs.declared.desc_error.DescError.TheVariants as counters
use Rattle.tk_script.specs.declared.script_error.ScriptError.{ScriptError}
use Rattle.tk_script.specs.declared.script_error.ScriptError.TheVariants as errors
use Rattle.tk_session.specs.declared.fault.Fault.{Fault}
use Rattle.tk_session.specs.declared.fault.Fault.TheVariants as faults
use Rattle.tk_session_c.specs.declared.code.Code.{Code}
use Rattle.tk_session_c.specs.declared.code.Code.TheVariants.{Done, BadBits, BadShift, BadMult, BadAdjust, BadRate, NotPlain, TooMany, BadOpening, BadWord, BadFields, BadNumber}

-- the number of a code
abbrev pub number_of : Code → ℕ
number_of Done = 0
number_of BadBits = 32
number_of BadShift = 33
number_of BadMult = 34
number_of BadAdjust = 35
number_of BadRate = 36
number_of NotPlain = 48
number_of TooMany = 49
number_of BadOpening = 50
number_of BadWord = 51
number_of BadFields = 52
number_of BadNumber = 53

-- the code of a fault of a counter's numbers
abbrev pub code_of_counter : DescError → Code
code_of_counter counters.Bits = BadBits
code_of_counter counters.Shift = BadShift
code_of_counter counters.Mult = BadMult
code_of_counter counters.Adjust = BadAdjust
code_of_counter counters.Rate = BadRate

-- the code of a record's fault. The last three are faults of whole scripts, which no record has
abbrev pub code_of_script : ScriptError → Code
code_of_script (errors.Opening row) = BadOpening
code_of_script (errors.Word row) = BadWord
code_of_script (errors.Fields row) = BadFields
code_of_script (errors.Number row) = BadNumber
code_of_script (errors.Counter row fault) = code_of_counter fault
code_of_script errors.TooLarge = BadOpening
code_of_script errors.Empty = BadOpening
code_of_script errors.Memory = BadOpening

-- the code of a session's fault
abbrev pub code_of_fault : Fault → Code
code_of_fault faults.NotPlain = NotPlain
code_of_fault faults.TooMany = TooMany
code_of_fault (faults.Script error) = code_of_script error

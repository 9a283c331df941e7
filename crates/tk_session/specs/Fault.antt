-- The texts of faults.
use Rattle.std.specs.Prelude.{ℕ, List, codes}
use Rattle.tk_script.specs.ScriptError.{script_text}
use Rattle.tk_session.specs.declared.fault.Fault.{Fault}
use Rattle.tk_session.specs.declared.fault.Fault.TheVariants.{NotPlain, TooMany, Script}

-- the text of a fault
abbrev pub fault_text : Fault → List ℕ
fault_text NotPlain = codes "not a plain line"
fault_text TooMany = codes "too many records"
fault_text (Script error) = script_text error

-- The texts of faults, and the faults for the errors of a script or an item.
use Rattle.std.specs.Prelude.{ℕ, List, ◌++◌, Option, Some, codes}
use Rattle.tk_script.specs.declared.script_error.ScriptError.{ScriptError}
use Rattle.tk_script.specs.declared.script_error.ScriptError.TheVariants as errors
use Rattle.tk_keeper.specs.declared.trace_error.TraceError.{TraceError}
use Rattle.tk_keeper.specs.declared.trace_error.TraceError.TheVariants as items
use Rattle.tk_keeper.specs.TraceError.{trace_text}
use Rattle.tk_script.specs.ScriptError.{script_text}
use Rattle.tk_report.specs.declared.fault.Fault.{Fault}
use Rattle.tk_report.specs.declared.fault.Fault.TheVariants as faults

-- the text of a fault
abbrev pub fault_text : Fault → Option (List ℕ)
fault_text faults.Read = Some (codes "cannot read")
fault_text (faults.Script error) = Some (codes "script: " ++ script_text error)
fault_text (faults.Stamps error) = Some (codes "stamps: " ++ script_text error)
fault_text (faults.Trace error) = trace_text error
fault_text faults.Memory = Some (codes "out of memory")
fault_text (faults.Write written) = Some (codes "cannot write")

-- the fault for an error of a text; an allocation failure is a separate fault
abbrev pub fault_with : (ScriptError → Fault) → ScriptError → Fault
fault_with of_text errors.Memory = faults.Memory
fault_with of_text error = of_text error

-- the fault for an error of a script
abbrev pub fault_of : ScriptError → Fault
fault_of error = fault_with faults.Script error

-- the fault for an error of an item; an allocation failure is a separate fault
abbrev pub fault_of_trace : TraceError → Fault
fault_of_trace items.Memory = faults.Memory
fault_of_trace (items.Unknown index) = faults.Trace (items.Unknown index)
fault_of_trace (items.Folded index) = faults.Trace (items.Folded index)
fault_of_trace (items.Invalid index) = faults.Trace (items.Invalid index)
fault_of_trace (items.Range index) = faults.Trace (items.Range index)

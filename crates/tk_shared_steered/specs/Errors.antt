-- The texts of the errors of a discipline over shared clocks.
use Rattle.std.specs.Prelude.{ℕ, List, codes}
use Rattle.tk_shared_steered.specs.declared.fault.SteeringFault.{SteeringFault}
use Rattle.tk_shared_steered.specs.declared.fault.SteeringFault.TheVariants.{Refused, Foreign}

-- why a call stopped
abbrev pub fault_text : SteeringFault → List ℕ
fault_text (Refused refusal) = codes "a command of the discipline is refused"
fault_text Foreign = codes "another caller gave a command"

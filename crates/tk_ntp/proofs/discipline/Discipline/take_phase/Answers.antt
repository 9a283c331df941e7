use Rattle.std.proofs.Common.{w64, FitsSigned, rules}
use Rattle.std.proofs.lemmas.Int.{to_z-of_z}
use Rattle.tk_ntp.proofs.discipline.Discipline.take_phase.Goals as goal

pub returns-clause-adjust : goal.returns-clause-adjust
returns-clause-adjust c =
    let fits : FitsSigned w64 c.self.inside.adjust = search rules in
    rw (← c.self.view_is)
    (rw (to_z-of_z w64 c.self.inside.adjust fits) at c.phase_of-self-inside.ensures.adjust)

pub returns-clause-ranges : goal.returns-clause-ranges
returns-clause-ranges c = rw (← c.self.view_is) c.self.invariant

use Rattle.tk_ntp.proofs.Restored.{passes_range}
use Rattle.tk_ntp.proofs.discipline.Discipline.numbers.Goals as goal

pub returns-clause-range : goal.returns-clause-range
returns-clause-range c = rw (← c.self.view_is) (passes_range _ c.self.invariant)

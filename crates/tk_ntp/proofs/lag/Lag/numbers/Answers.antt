use Rattle.tk_ntp.proofs.Restored.{passes_lag}
use Rattle.tk_ntp.proofs.lag.Lag.numbers.Goals as goal

pub returns-clause-range : goal.returns-clause-range
returns-clause-range c =
    rw (← c.self.view_is)
    (passes_lag (record { high = c.self.inside.high; low = c.self.inside.low }) c.self.invariant)

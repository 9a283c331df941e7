use Rattle.std.proofs.Common.{sym}
use Rattle.tk_clock.specs.Amount.{amount_of-units_of}
use Rattle.tk_clock.proofs.read_base.ReadBase.raw_amount.Goals as goal

pub returns-clause-value : goal.returns-clause-value
returns-clause-value c =
    rw (← c.self.view_is)
    (sym (amount_of-units_of c.self.inside.desc c.self.inside.raw c.self.invariant.raw_frac_low))

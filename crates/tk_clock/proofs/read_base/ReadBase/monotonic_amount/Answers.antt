use Rattle.std.proofs.Common.{sym}
use Rattle.tk_clock.specs.Amount.{amount_of-units_of}
use Rattle.tk_clock.proofs.read_base.ReadBase.monotonic_amount.Goals as goal

pub returns : goal.returns
returns c = rw (← c.self.view_is)
    (sym (amount_of-units_of c.self.inside.desc c.self.inside.monotonic c.self.invariant.frac_low))

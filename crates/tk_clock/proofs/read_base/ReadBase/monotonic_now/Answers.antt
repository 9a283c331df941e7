use Rattle.tk_clock.proofs.Forwarding.{base_monotonic-last}
use Rattle.tk_clock.proofs.read_base.ReadBase.monotonic_now.Goals as goal

pub returns-clause-value : goal.returns-clause-value
returns-clause-value c =
    rw (base_monotonic-last c.args.self.now) (rw (← c.self.view_is) c.nanos.ensures)

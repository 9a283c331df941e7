use Rattle.tk_ntp.proofs.Multipliers.{near_at_rate}
use Rattle.tk_ntp.proofs.steered_clock.SteeredClock.rate.Goals as goal

pub returns-clause-near : goal.returns-clause-near
returns-clause-near c =
    let clock = c.self.inside.clock in
    let running = c.tick.ensures.running in
    rw (← c.self.view_is)
    (near_at_rate clock.base.counter clock.frequency clock.tick clock.base.mult running.steered
    running.tick_low running.tick_high)

use Rattle.std.proofs.Common.{refl}
use Rattle.std.specs.Prelude.{Ok}
use Rattle.tk_ntp.proofs.Pulses.{pulsed}
use Rattle.tk_ntp.proofs.course.Course.pulse.Goals as goal

pub returns : goal.returns
returns g c =
    let kept = g.C.Clocks in
    let told = c.in_ok-ready.ensures in
    pulsed kept.state kept.is_after kept.has_room kept.is_short c.args.who c.args.reading
    c.args.pulse c.args.clocks.now c.advance.new.clocks c.ready.new.self c.args.self.now
    c.advance.new.self (Ok (tt {0})) c.take_pulse.new.clocks c.take_pulse.new.self
    c.in_ok-advance.ensures
    (record { same = told.state; kept = told.kept; room = told.answer })
    (record { done = refl; clocks = c.take_pulse.ensures.clocks; entries = c.take_pulse.ensures.entries })

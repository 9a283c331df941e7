use Rattle.std.proofs.Common.{◌∙◌, ap, refl, subst}
use Rattle.std.specs.Prelude.{Ok, Err}
use Rattle.tk_ntp.specs.declared.pulse.Pulse.{Pulse}
use Rattle.tk_ntp.specs.Pulsed.{IsPulsedTo}
use Rattle.tk_c.specs.Codes.{number_of}
use Rattle.tk_c.specs.Room.{HasCounted, HasRoom, IsShort, clocks_of}
use Rattle.tk_c.proofs.pulses.take.Goals as goal

pub returns-in-Ok : goal.returns-in-Ok
returns-in-Ok c = record {
  called = Ok c.in-Ok.field-0;
  clocks =
      subst (λ (pulse : Pulse). IsPulsedTo clocks_of HasCounted HasRoom IsShort 0 c.args.reading
      pulse c.args.ntp.now.clocks c.args.ntp.now.course (Ok c.in-Ok.field-0) c.pulse.new.clocks
      c.pulse.new.self) c.pulse-pulse.ensures.pulse c.in-Ok.ensures;
  signal = c.pulse-pulse.ensures.state;
  stated = c.number.ensures;
}

pub returns-in-Err : goal.returns-in-Err
returns-in-Err c = record {
  called = Err c.in-Err.refusal;
  clocks =
      subst (λ (pulse : Pulse). IsPulsedTo clocks_of HasCounted HasRoom IsShort 0 c.args.reading
      pulse c.args.ntp.now.clocks c.args.ntp.now.course (Err c.in-Err.refusal) c.pulse.new.clocks
      c.pulse.new.self) c.pulse-pulse.ensures.pulse c.in-Err.ensures;
  signal = refl;
  stated = c.number-in-Err.ensures ∙ ap number_of c.from.ensures;
}

use Rattle.std.proofs.Common.{refl}
use Rattle.std.specs.Prelude.{Ok, Err}
use Rattle.tk_c.specs.CountedNtp.{whole}
use Rattle.tk_c.proofs.change_ntp_counter.change_awake.Goals as goal

pub returns-in-Ok : goal.returns-in-Ok
returns-in-Ok c = (
  whole (record { clocks = c.advance.new.clocks; course = c.advance.new.self }),
  Ok c.in-Ok.field-0,
  c.in-Ok.ensures,
  c.turn_over.ensures,
)

pub returns-in-Err : goal.returns-in-Err
returns-in-Err c = (
  whole (record { clocks = c.advance.new.clocks; course = c.advance.new.self }),
  Err c.in-Err.refusal,
  c.in-Err.ensures,
  (refl, refl),
)

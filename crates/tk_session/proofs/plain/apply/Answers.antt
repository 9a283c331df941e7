use Rattle.std.specs.Prelude.{None}
use Rattle.tk_session.proofs.plain.apply.Goals as goal

pub returns : goal.returns
returns c = λ journal kept. c.apply.ensures None journal kept

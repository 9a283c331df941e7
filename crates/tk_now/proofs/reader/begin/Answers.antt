use Rattle.std.proofs.Common.{rules}
use Rattle.tk_now.proofs.Timing.{begins}
use Rattle.tk_now.proofs.reader.begin.Goals as goal

pub load-requires : goal.load-requires
load-requires g c = (search rules, search rules, begins _ _ _ c.requires.resting)

use Rattle.std.proofs.Common.{rules}
use Rattle.tk_now.proofs.Timing.{ends}
use Rattle.tk_now.proofs.reader.end.Goals as goal

pub load-requires : goal.load-requires
load-requires g c =
    (search rules, search rules, ends _ _ _ _ c.requires.timing c.requires.before)

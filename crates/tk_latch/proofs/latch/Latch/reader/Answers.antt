use Rattle.std.proofs.Common.{rules}
use Rattle.tk_latch.proofs.Seats.{hands}
use Rattle.tk_latch.proofs.latch.Latch.reader.Goals as goal

pub split_seat-requires : goal.split_seat-requires
split_seat-requires g c = (search rules, search rules, hands _ _ _ c.writer.invariant.0)

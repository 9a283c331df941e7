use Rattle.std.proofs.Common.{◌≡◌}
use Rattle.tk_latch.specs.Attempt.{Gathered}
use Rattle.tk_latch.proofs.reader.gather_copy.Given as goal

abbrev pub invariant-loop-i : goal.invariant-loop-i
invariant-loop-i g l = record {
  latch : l.seat.table_id ≡ l.initial.seat.table_id;
  carried : l.seat.me.1 ≡ l.initial.seat.me.1;
  words : Gathered l.fn.seat.me.0 l.first l.words l.seat.me.0 l.i;
}

use Rattle.std.proofs.Common.{◌≡◌, take}
use Rattle.tk_latch.specs.Views.{making}
use Rattle.tk_latch.proofs.writer.make.Given as goal

abbrev pub invariant-loop-i : goal.invariant-loop-i
invariant-loop-i g l = record {
  latch : l.seat.table_id ≡ l.initial.seat.table_id;
  writer : l.seat.me.0 ≡ making l.fn.seat.me.0.history (take l.i l.words);
}

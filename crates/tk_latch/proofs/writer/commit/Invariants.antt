use Rattle.std.proofs.Common.{◌≡◌}
use Rattle.tk_latch.specs.Publications.{pushed_words}
use Rattle.tk_latch.specs.Views.{copying}
use Rattle.tk_latch.proofs.writer.commit.Given as goal

abbrev pub invariant-loop-i : goal.invariant-loop-i
invariant-loop-i g l = record {
  latch : l.seat.table_id ≡ l.initial.seat.table_id;
  writer : l.seat.me.0 ≡ copying (pushed_words l.fn.seat.me.0.history l.words) l.i;
}

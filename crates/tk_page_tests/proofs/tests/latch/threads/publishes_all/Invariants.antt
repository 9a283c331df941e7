use Rattle.std.proofs.Common.{◌≡◌, length}
use Rattle.tk_page_tests.proofs.tests.latch.threads.publishes_all.Given as goal

abbrev pub invariant-loop-number : goal.invariant-loop-number
invariant-loop-number l = record {
  latch : l.writer.latch ≡ l.initial.writer.latch;
  count : length l.writer.publications ≡ l.number;
}

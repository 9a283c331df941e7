use Rattle.std.proofs.Common.{◌≡◌, length}
use Rattle.tk_page_tests.proofs.tests.latch.changes.reads_each.Given as goal

abbrev pub invariant-loop-number : goal.invariant-loop-number
invariant-loop-number l = record {
  latch : l.writer.latch ≡ l.initial.writer.latch;
  reader : l.reader.latch ≡ l.initial.reader.latch;
  count : length l.writer.publications ≡ l.number;
}

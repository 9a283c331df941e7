use Rattle.std.proofs.Common.{◌≡◌}
use Rattle.tk_page_tests.proofs.tests.latch.threads.reads_all.Given as goal

abbrev pub invariant-loop : goal.invariant-loop
invariant-loop l = record { latch : l.reader.latch ≡ l.initial.reader.latch }

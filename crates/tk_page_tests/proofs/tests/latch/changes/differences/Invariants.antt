use Rattle.std.proofs.Common.{◌≤◌}
use Rattle.tk_page_tests.proofs.tests.latch.changes.differences.Given as goal

abbrev pub invariant-loop-place : goal.invariant-loop-place
invariant-loop-place l = record { count : l.count ≤ l.place }

use Rattle.std.proofs.Common.{◌≡◌}
use Rattle.tk_page_tests.proofs.tests.now.the_hosts_clock_advances.Given as goal

abbrev pub invariant-loop : goal.invariant-loop
invariant-loop g l = record { notice : l.reader.notice ≡ l.initial.reader.notice }

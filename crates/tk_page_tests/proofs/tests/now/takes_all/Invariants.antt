use Rattle.std.proofs.Common.{◌≡◌}
use Rattle.tk_page_tests.proofs.tests.now.takes_all.Given as goal

abbrev pub invariant-loop : goal.invariant-loop
invariant-loop l = record { notice : l.reader.notice ≡ l.initial.reader.notice }

use Rattle.std.proofs.Common.{◌≡◌}
use Rattle.tk_page_tests.proofs.tests.page.many.read_enough.Given as goal

abbrev pub invariant-loop : goal.invariant-loop
invariant-loop g l = l.viewer.page ≡ l.page

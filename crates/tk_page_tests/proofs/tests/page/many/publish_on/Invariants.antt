use Rattle.std.proofs.Common.{◌≡◌}
use Rattle.tk_page_tests.proofs.tests.page.many.publish_on.Given as goal

abbrev pub invariant-loop-number : goal.invariant-loop-number
invariant-loop-number g l = l.desk.page ≡ l.page

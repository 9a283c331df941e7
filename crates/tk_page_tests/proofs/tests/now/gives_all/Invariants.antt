use Rattle.std.proofs.Common.{◌≡◌, ◌+◌, ◌≤◌, None, length}
use Rattle.tk_page_tests.proofs.tests.now.gives_all.Given as goal

abbrev pub invariant-loop-number : goal.invariant-loop-number
invariant-loop-number l = record {
  notice : l.writer.notice ≡ l.initial.writer.notice;
  idle : l.writer.since ≡ None;
  few : length l.writer.commands ≤ l.number + 1;
}

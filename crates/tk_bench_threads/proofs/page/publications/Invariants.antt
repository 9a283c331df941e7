use Rattle.std.proofs.Common.{◌≡◌}
use Rattle.tk_bench_threads.proofs.page.publications.Given as goal

abbrev pub invariant-loop : goal.invariant-loop
invariant-loop g l = l.desk.page ≡ l.initial.desk.page

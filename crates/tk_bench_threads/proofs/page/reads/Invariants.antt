use Rattle.std.proofs.Common.{◌≡◌}
use Rattle.tk_bench_threads.proofs.page.reads.Given as goal

abbrev pub invariant-loop : goal.invariant-loop
invariant-loop g l = l.viewer.page ≡ l.initial.viewer.page

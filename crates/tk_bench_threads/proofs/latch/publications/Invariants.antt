use Rattle.std.proofs.Common.{◌≡◌}
use Rattle.tk_bench_threads.proofs.latch.publications.Given as goal

abbrev pub invariant-loop : goal.invariant-loop
invariant-loop l = l.desk.latch ≡ l.initial.desk.latch

use Rattle.std.proofs.Common.{◌≡◌}
use Rattle.tk_bench_threads.proofs.latch.reads.Given as goal

abbrev pub invariant-loop : goal.invariant-loop
invariant-loop l = record { latch : l.reader.latch ≡ l.initial.reader.latch }

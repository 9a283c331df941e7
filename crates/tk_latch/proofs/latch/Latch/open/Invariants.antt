use Rattle.std.proofs.Common.{◌≡◌, ◌≤◌, replicate}
use Rattle.std.specs.Vec.{vec_len, vec_capacity}
use Rattle.tk_latch.specs.Latch.{told_reader}
use Rattle.tk_latch.proofs.latch.Latch.open.Given as goal

abbrev pub invariant-loop : goal.invariant-loop
invariant-loop g l = record {
  writer : l.writer ≡ l.initial.writer;
  room : l.readers ≤ vec_capacity l.seats;
  len : vec_len l.seats ≡ l.counter;
  made : l.seats.items ≡ replicate l.counter (told_reader l.writer);
}

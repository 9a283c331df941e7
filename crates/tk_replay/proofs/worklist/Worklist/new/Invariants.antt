use Rattle.std.proofs.Common.{◌≡◌, ◌≤◌, take}
use Rattle.std.specs.Vec.{vec_capacity, vec_len}
use Rattle.tk_replay.specs.Many.{AreOutcomes}
use Rattle.tk_replay.proofs.worklist.Worklist.new.Given as goal

abbrev pub invariant-loop : goal.invariant-loop
invariant-loop g l = record {
  counted : l.counter ≤ l.count;
  room : l.count ≤ vec_capacity l.outcomes;
  many : vec_len l.outcomes ≡ l.counter;
  each : AreOutcomes (take l.counter g.S.NamesScripts.scripts) l.outcomes.items;
}

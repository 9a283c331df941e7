use Rattle.std.proofs.Common.{◌-◌, ◌≤◌, length}
use Rattle.tk_lanes.specs.Batch.{IsFilled}
use Rattle.tk_lanes.proofs.batch.lane_batch.Given as goal

abbrev pub invariant-eights : goal.invariant-eights
invariant-eights l = record {
  inside : l.at ≤ length l.stamps;
  filled : IsFilled l.snapshot.base l.clock l.stamps 0 l.at l.initial.out l.out;
}

abbrev pub decreases-eights : goal.decreases-eights
decreases-eights l = length l.stamps - l.at

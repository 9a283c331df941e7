use Rattle.std.proofs.Common.{◌-◌, ◌≤◌, length}
use Rattle.tk_clock.specs.declared.clock_id.ClockId.{ClockId}
use Rattle.tk_clock.specs.State.{ReadBase}
use Rattle.tk_lanes.specs.Batch.{IsFilled}
use Rattle.tk_lanes.specs.Segment.{IsSegment}
use Rattle.tk_lanes.proofs.segment.Segment.convert_ahead.Given as goal

abbrev pub invariant-eights : goal.invariant-eights
invariant-eights l = record {
  order : l.first ≤ l.at;
  inside : l.at ≤ length l.stamps;
  filled : (base : ReadBase) (clock : ClockId) → IsSegment base clock l.self →
      IsFilled base clock l.stamps l.first l.at l.initial.out l.out;
}

abbrev pub decreases-eights : goal.decreases-eights
decreases-eights l = length l.stamps - l.at

use Rattle.std.proofs.Common.{◌-◌, ◌≤◌, length}
use Rattle.tk_keeper.specs.Past.{IsAt}
use Rattle.tk_keeper.specs.Trace.{IsWritten}
use Rattle.tk_keeper.proofs.timekeeper.Timekeeper.trace_from.Given as goal

abbrev pub invariant-stretches : goal.invariant-stretches
invariant-stretches g l = record {
  cursor : IsAt l.self.journal l.cursor;
  inside : l.first ≤ length l.out;
  written : IsWritten l.self.journal l.clock l.fronts l.stamps l.first l.fn.out l.out;
}

abbrev pub decreases-stretches : goal.decreases-stretches
decreases-stretches g l = length l.out - l.first

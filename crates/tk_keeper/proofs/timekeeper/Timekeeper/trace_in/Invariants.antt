use Rattle.std.proofs.Common.{◌-◌, ◌≤◌, length}
use Rattle.tk_keeper.specs.Past.{IsAt}
use Rattle.tk_keeper.specs.Trace.{AreValues, ConvertsItems}
use Rattle.tk_keeper.proofs.timekeeper.Timekeeper.trace_in.Given as goal

abbrev pub invariant-runs : goal.invariant-runs
invariant-runs g l = record {
  made : l.first ≤ l.values.len;
  inside : l.values.len ≤ length l.stamps;
  room : length l.stamps ≤ l.values.cap;
  so_far : AreValues l.self.journal l.clock l.fronts l.stamps l.first l.values.items;
  cursor : IsAt l.self.journal l.cursor;
  converts : ConvertsItems l.self.journal l.current.0 l.current.1.base;
}

abbrev pub decreases-runs : goal.decreases-runs
decreases-runs g l = length l.stamps - l.first

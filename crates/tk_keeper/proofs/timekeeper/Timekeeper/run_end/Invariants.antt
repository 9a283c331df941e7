use Rattle.std.proofs.Common.{◌≡◌, ◌-◌, get_or}
use Rattle.tk_keeper.specs.Runs.{AreRuns}
use Rattle.tk_keeper.proofs.timekeeper.Timekeeper.run_end.Given as goal

abbrev pub invariant-run : goal.invariant-run
invariant-run g l = record {
  runs : AreRuns l.self.journal l.from l.next;
  entry : l.entry ≡ get_or l.self.journal.entries (l.next - 1) l.entry;
}

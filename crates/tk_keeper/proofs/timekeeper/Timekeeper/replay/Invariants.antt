use Rattle.std.proofs.Common.{◌≡◌, ◌-◌, ◌≤◌}
use Rattle.tk_clock.specs.Journal.{prefix}
use Rattle.tk_clock.specs.State.{state_of}
use Rattle.tk_keeper.proofs.timekeeper.Timekeeper.replay.Given as goal

abbrev pub invariant-later : goal.invariant-later
invariant-later g l = record {
  state : l.clock ≡ state_of (prefix l.next l.self.journal);
  inside : l.next ≤ l.place;
}

abbrev pub decreases-later : goal.decreases-later
decreases-later g l = l.place - l.next

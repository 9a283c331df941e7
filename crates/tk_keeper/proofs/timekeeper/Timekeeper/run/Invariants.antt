use Rattle.std.proofs.Common.{◌≡◌, ◌+◌, ◌-◌, ◌≤◌, ◌++◌, length, max, min, drop}
use Rattle.std.specs.Prelude.{vec_len, vec_capacity}
use Rattle.tk_clock.specs.Journal.{accepted_count}
use Rattle.tk_clock.specs.Run.{run}
use Rattle.tk_keeper.proofs.timekeeper.Timekeeper.run.Given as goal
use Rattle.tk_clock.specs.Limits.{listed_most}

abbrev pub invariant-events : goal.invariant-events
invariant-events g l = record {
  answers : (run l.fn.self.journal l.events).answers
      ≡ l.answers.items ++ (run l.self.journal (drop l.event-index l.events)).answers;
  journal : (run l.fn.self.journal l.events).journal
      ≡ (run l.self.journal (drop l.event-index l.events)).journal;
  began : l.self.began ≡ l.fn.self.began;
  room : vec_len l.answers + (length l.events - l.event-index) ≤ vec_capacity l.answers;
  spare : min (length l.events - l.event-index) (listed_most - length l.self.journal.entries)
      ≤ l.self.spare;
  taken : max l.fn.self.spare (min (length l.events) (listed_most - length l.fn.self.journal.entries))
      + accepted_count l.fn.self.journal
      ≤ l.self.spare + accepted_count l.self.journal;
}

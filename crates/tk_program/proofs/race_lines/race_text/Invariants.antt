use Rattle.std.proofs.Common.{◌≡◌, ◌++◌, drop, map}
use Rattle.tk_clock.specs.Journal.{accepted_count}
use Rattle.tk_program.specs.RaceText.{actor_lines, race_lines}
use Rattle.tk_program.proofs.race_lines.race_text.Given as goal

abbrev pub invariant-loop-id : goal.invariant-loop-id
invariant-loop-id g l = record {
  lines : l.text.items ++ actor_lines l.id (map (λ r. r.items) (drop l.id l.replies-items))
      ≡ race_lines (accepted_count l.report.keeper.journal)
      (map (λ r. r.items) l.report.replies.items);
  all : l.replies-items ≡ l.report.replies.items;
}

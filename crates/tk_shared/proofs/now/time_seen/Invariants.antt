use Rattle.std.proofs.Common.{◌≡◌, ◌≤◌}
use mathlib.Core.List.{IsPrefix}
use Rattle.tk_page.specs.History.{Begins}
use Rattle.tk_shared.proofs.now.time_seen.Given as goal

abbrev pub invariant-loop : goal.invariant-loop
invariant-loop g l = record {
  page : l.viewer.page ≡ l.initial.viewer.page;
  notice : l.notice_reader.notice ≡ l.initial.notice_reader.notice;
  reads : l.initial.viewer.reads ≤ l.viewer.reads;
  begins : Begins l.initial.viewer.journal l.viewer.journal;
  commands : IsPrefix l.initial.notice_reader.commands l.notice_reader.commands;
  log : IsPrefix l.initial.notice_reader.log l.notice_reader.log;
}

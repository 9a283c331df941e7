-- A record of a report whose clocks no discipline steers.
use Rattle.std.specs.Prelude.{ℕ, ◌+◌, ◌≤◌, ◌^◌, List, Option}
use Rattle.tk_clock.specs.Journal.{Journal}
use Rattle.tk_report.specs.declared.reporting.PlainReport.{PlainReport}
use Rattle.tk_report.specs.CountedClocks.{ForKept, IsKept}
use Rattle.tk_report.specs.Counts.{counted_after, lines-left}
use Rattle.tk_report.specs.Folding.{rule_of}
use Rattle.tk_report.specs.Lines.{HasRoom, IsNoted}
use Rattle.tk_report.specs.Report.{IsLine, after, missed}
use Rattle.tk_script.specs.declared.row.Row.{Row}
use Rattle.tk_script.specs.Start.{most_front}
use Rattle.std.proofs.Common.{arith}

-- the report and its clocks after one more record
abbrev pub IsPlainStep : {A : Type 0} → PlainReport A → Row → PlainReport A → Type 0
IsPlainStep before row next = ForKept before.clocks (λ keep journal.
    ((line : List ℕ) × IsLine (rule_of keep) journal row line
    × IsNoted before.lines line (missed journal row) next.lines)
    × IsKept keep next.clocks (after (rule_of keep) journal row))

-- this many more records can be counted, and the clocks are those of some journal, which can count
-- this many more commands
pub record HasRoomFor {A : Type 0} (more : ℕ) (report : PlainReport A) : Type 0 where
  pub lines : HasRoom more report.lines
  pub keep : Option ℕ
  pub journal : Journal
  pub kept : IsKept keep report.clocks journal
  pub few : report.clocks.count + more ≤ most_front + 2 ^ 32

-- a record takes the room of one
pub leaves_room : {A : Type 0} (later : ℕ) (before next : PlainReport A) (row : Row) →
    IsPlainStep before row next → HasRoomFor (later + 1) before → HasRoomFor later next
leaves_room later before next row step room =
    let rule = rule_of room.keep in
    let (told, kept) = step room.keep room.journal room.kept in
    record {
      lines = lines-left later before.lines next.lines told.0 (missed room.journal row) told.2
          room.lines;
      keep = room.keep;
      journal = after rule room.journal row;
      kept = kept;
      few = omega (
        arith,
        counted_after rule room.journal row,
        room.kept.count,
        kept.count,
        room.few,
      );
    }

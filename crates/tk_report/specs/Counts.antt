-- A record is at most one command, and at most one difference.
use Rattle.std.specs.Prelude.{ℕ, ◌+◌, ◌≤◌, List, Option, Some, None}
use Rattle.std.proofs.Common.{arith}
use Rattle.std.proofs.lemmas.List.{length_push}
use Rattle.tk_counter.specs.Counter.{Counter}
use Rattle.tk_clock.specs.declared.command.Entry.{Entry}
use Rattle.tk_clock.specs.declared.refusal.Refusal.{Refusal}
use Rattle.tk_clock.specs.Journal.{Journal, accepted_count}
use Rattle.tk_clock.specs.Run.{reply_if}
use Rattle.tk_keeper.specs.ChangeCounter.{counter_refusal}
use Rattle.tk_report.specs.declared.report_lines.Lines.{Lines}
use Rattle.tk_report.specs.Lines.{HasRoom, IsNoted}
use Rattle.tk_report.specs.Report.{Rule, after, change_if, difference, event}
use Rattle.tk_script.specs.declared.row.Row.{Row}
use Rattle.tk_script.specs.declared.row.Row.TheVariants.{Act, Look, Change, Ask}

difference_most : (missed : Option ℕ) → difference missed ≤ 1
difference_most None = omega arith
difference_most (Some value) = omega arith

counted : (journal : Journal) (entry : Entry) (refusal : Option Refusal) →
    accepted_count (reply_if journal entry refusal).journal ≤ accepted_count journal + 1
counted journal entry None = omega (arith, length_push journal.entries entry)
counted journal entry (Some refusal) = omega arith

counted_changed : (journal : Journal) (reading : ℕ) (counter : Counter) (first : ℕ)
    (refusal : Option Refusal) →
    accepted_count (change_if journal reading counter first refusal).journal
    ≤ accepted_count journal + 1
counted_changed journal reading counter first None = omega arith
counted_changed journal reading counter first (Some refusal) = omega arith

pub counted_after : (rule : Rule) (journal : Journal) (row : Row) →
    accepted_count (after rule journal row) ≤ accepted_count journal + 1
counted_after rule journal (Act reading cmd) =
    counted journal (event reading cmd) (rule journal (event reading cmd))
counted_after rule journal (Look reading clock expected) = omega arith
counted_after rule journal (Ask reading request) = omega arith
counted_after rule journal (Change reading counter first) =
    counted_changed journal reading counter first (counter_refusal journal reading counter first)

-- the lines after a record have the room of one record less
pub lines-left : {A : Type 0} (later : ℕ) (before next : Lines A) (line : List ℕ)
    (missed : Option ℕ) → IsNoted before line missed next → HasRoom (later + 1) before →
    HasRoom later next
lines-left later before next line missed noted room = record {
  records = omega (arith, noted.records, room.records);
  differences = omega (
    arith,
    noted.records,
    noted.differences,
    difference_most missed,
    room.differences,
  );
}

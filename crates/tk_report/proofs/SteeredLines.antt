-- The lines of a report of steered clocks, and their journal, one record after the other.
use Rattle.std.proofs.Common.{◌≡◌, ◌∙◌, ℕ, ◌+◌, List, [], ◌∷◌, ◌++◌, refl, sym, ap, subst, arith}
use Rattle.std.proofs.lemmas.List.{append-nil}
use Rattle.tk_script.specs.declared.row.Row.{Row}
use Rattle.tk_script.specs.Lines.{open_line}
use Rattle.tk_steered.specs.Kept.{SteeredKeeper}
use Rattle.tk_report.specs.declared.report_lines.Lines.{Lines}
use Rattle.tk_report.specs.declared.steered_reporting.SteeredReport.{SteeredReport}
use Rattle.tk_report.specs.Report.{difference, differs_text}
use Rattle.tk_report.specs.Rows.{HasDone, IsAfterRows}
use Rattle.tk_report.specs.SteeredReport.{IsSteeredAfter, IsSteeredAfterAll, IsSteeredJournalOfRows, IsSteeredLines, IsSteeredReportOfRows, journal_in, missed_after}
use Rattle.tk_report.specs.SteeredSteps.{IsSteeredStep}
use Rattle.tk_report.proofs.Noted.{text-noted}
use Rattle.tk_report.proofs.Rows.{Rows}

-- the lines of the records, after the lines so far, and the number of their differences
record HasLines {A : Type 0} (clocks : SteeredKeeper) (rows : List Row) (before next : Lines A) :
    Type 0 where
  lines : List ℕ
  more : ℕ
  are : IsSteeredLines (before.records + 1) clocks rows lines more
  text : next.text.items ≡ before.text.items ++ lines
  found : next.differences ≡ before.differences + more

all-lines : {A : Type 0} (rows : List Row) (before next : SteeredReport A) →
    IsAfterRows IsSteeredStep before rows next →
    HasLines before.clocks rows before.lines next.lines
all-lines {A = A} [] before next same =
    let lines = before.lines in record {
      lines = [];
      more = 0;
      are = (refl, refl);
      text = ap (λ (r : SteeredReport A). r.lines.text.items) same
          ∙ sym (append-nil lines.text.items);
      found = omega (arith, ap (λ (r : SteeredReport A). r.lines.differences) same);
    }
all-lines (row ∷ rows) before next (middle, (line, isLine, noted), rest) =
    let here = before.lines in
    let value = missed_after (journal_in middle.clocks) row in
    let later = all-lines rows middle next rest in record {
      lines = line ++ (differs_text (here.records + 1) value ++ later.lines);
      more = difference value + later.more;
      are = (
        line,
        later.lines,
        later.more,
        middle.clocks,
        isLine,
        subst (λ n. IsSteeredLines (n + 1) middle.clocks rows later.lines later.more) noted.records
            later.are,
        refl,
        refl,
      );
      text = text-noted here middle.lines next.lines line value later.lines noted later.text;
      found = omega (arith, later.found, noted.differences);
    }

-- the report of all records, if the lines began with the opening's
pub report-of : {A : Type 0} (all : Rows) (before next : SteeredReport A) →
    before.lines.text.items ≡ open_line (journal_in before.clocks).opening.counter →
    before.lines.records ≡ 1 → before.lines.differences ≡ 0 →
    HasDone IsSteeredStep before all next →
    IsSteeredReportOfRows before.clocks all next.lines.text.items next.lines.differences
report-of all before next opened first none (rows, known, run) =
    let told = all-lines rows before next run in
    let count : told.more ≡ next.lines.differences = omega (arith, told.found, none) in (
      rows,
      known,
      (
        told.lines,
        subst (λ n. IsSteeredLines 2 before.clocks rows told.lines n) count
            (subst (λ n. IsSteeredLines (n + 1) before.clocks rows told.lines told.more) first
            told.are),
        told.text ∙ ap (λ (t : List ℕ). t ++ told.lines) opened,
      ),
    )

after-all : (rows : List Row) (before next : SteeredKeeper) →
    IsAfterRows IsSteeredAfter before rows next → IsSteeredAfterAll before rows next
after-all [] before next same = same
after-all (row ∷ rows) before next (middle, moved, rest) =
    (middle, moved, after-all rows middle next rest)

-- the journal after all records
pub journal-of : (all : Rows) (before next : SteeredKeeper) →
    HasDone IsSteeredAfter before all next →
    IsSteeredJournalOfRows before all (journal_in next)
journal-of all before next (rows, known, run) =
    (rows, known, (next, after-all rows before next run, refl))

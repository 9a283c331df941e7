-- The lines of a report of clocks that no discipline steers, one record after the other.
use Rattle.std.proofs.Common.{◌≡◌, ◌∙◌, ℕ, ◌+◌, List, [], ◌∷◌, ◌++◌, refl, sym, ap, subst, arith}
use Rattle.std.specs.Prelude.{Option}
use Rattle.std.proofs.lemmas.List.{append-nil}
use Rattle.tk_clock.specs.Journal.{Journal}
use Rattle.tk_script.specs.declared.opening.Start.{Start}
use Rattle.tk_script.specs.declared.row.Row.{Row}
use Rattle.tk_script.specs.Coming.{opened_with}
use Rattle.tk_script.specs.Lines.{open_line}
use Rattle.tk_script.specs.Start.{journal_at}
use Rattle.tk_report.specs.declared.report_lines.Lines.{Lines}
use Rattle.tk_report.specs.declared.reporting.PlainReport.{PlainReport}
use Rattle.tk_report.specs.CountedClocks.{IsKept}
use Rattle.tk_report.specs.Folding.{rule_of}
use Rattle.tk_report.specs.PlainSteps.{IsPlainStep}
use Rattle.tk_report.specs.Report.{Rule, IsLines, IsPlainReportOfRows, after, differences, differences_of, differs_text, missed}
use Rattle.tk_report.specs.Rows.{HasDone, IsAfterRows}
use Rattle.tk_report.proofs.Noted.{text-noted}
use Rattle.tk_report.proofs.Rows.{Rows}

-- the lines of the records, after the lines so far, and the number of their differences
record HasLines {A : Type 0} (rule : Rule) (journal : Journal) (rows : List Row)
    (before next : Lines A) : Type 0 where
  lines : List ℕ
  are : IsLines rule (before.records + 1) journal rows lines
  text : next.text.items ≡ before.text.items ++ lines
  found : next.differences ≡ before.differences + differences rule journal rows

all-lines : {A : Type 0} (keep : Option ℕ) (rows : List Row) (before next : PlainReport A)
    (journal : Journal) → IsKept keep before.clocks journal →
    IsAfterRows IsPlainStep before rows next →
    HasLines (rule_of keep) journal rows before.lines next.lines
all-lines {A = A} keep [] before next journal kept same =
    let lines = before.lines in record {
      lines = [];
      are = refl;
      text = ap (λ (r : PlainReport A). r.lines.text.items) same ∙ sym (append-nil lines.text.items);
      found = omega (arith, ap (λ (r : PlainReport A). r.lines.differences) same);
    }
all-lines keep (row ∷ rows) before next journal kept (middle, step, rest) =
    let rule = rule_of keep in
    let here = before.lines in
    let (told, still) = step keep journal kept in
    let line = told.0 in
    let noted = told.2 in
    let value = missed journal row in
    let later = all-lines keep rows middle next (after rule journal row) still rest in record {
      lines = line ++ (differs_text (here.records + 1) value ++ later.lines);
      are = (
        line,
        later.lines,
        told.1,
        subst (λ n. IsLines rule (n + 1) (after rule journal row) rows later.lines) noted.records
            later.are,
        refl,
      );
      text = text-noted here middle.lines next.lines line value later.lines noted later.text;
      found = omega (arith, later.found, noted.differences);
    }

-- the report of all records, if the lines began with the opening's
pub report-of : {A : Type 0} (keep : Option ℕ) (start : Start) (all : Rows)
    (before next : PlainReport A) → IsKept keep before.clocks (journal_at start) →
    before.lines.text.items ≡ open_line (journal_at start).opening.counter →
    before.lines.records ≡ 1 → before.lines.differences ≡ 0 →
    HasDone IsPlainStep before all next →
    IsPlainReportOfRows (rule_of keep) start all next.lines.text.items
    × (next.lines.differences ≡ differences_of (rule_of keep) (opened_with start all))
report-of keep start all before next kept opened first none (rows, known, run) =
    let rule = rule_of keep in
    let journal = journal_at start in
    let told = all-lines keep rows before next journal kept run in
    let count = ap (λ (read : Rows). differences_of rule (opened_with start read)) known in (
      (
        _,
        ap (opened_with start) known,
        (
          told.lines,
          subst (λ n. IsLines rule (n + 1) journal rows told.lines) first told.are,
          told.text ∙ ap (λ (t : List ℕ). t ++ told.lines) opened,
        ),
      ),
      omega (arith, told.found, none, count),
    )

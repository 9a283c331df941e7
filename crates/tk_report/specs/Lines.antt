-- The lines of a report, one record after the other.
use Rattle.std.specs.Prelude.{◌≡◌, ℕ, ◌+◌, ◌≤◌, ◌^◌, List, ◌++◌, Option}
use Rattle.tk_report.specs.declared.report_lines.Lines.{Lines}
use Rattle.tk_report.specs.Report.{difference, differs_text}

-- the lines after one more record: its line, and the line of the expected value that it does not
-- give, if there is one
pub record IsNoted {A : Type 0} (before : Lines A) (line : List ℕ) (missed : Option ℕ)
    (after : Lines A) : Type 0 where
  pub text : after.text.items
      ≡ before.text.items ++ (line ++ differs_text (before.records + 1) missed)
  pub records : after.records ≡ before.records + 1
  pub differences : after.differences ≡ before.differences + difference missed

-- this many more records can be counted; a record is at most one difference
pub record HasRoom {A : Type 0} (more : ℕ) (lines : Lines A) : Type 0 where
  pub records : lines.records + more ≤ 2 ^ 32
  pub differences : lines.differences ≤ lines.records

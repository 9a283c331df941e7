-- The lines of a report after one more record.
use Rattle.std.proofs.Common.{◌≡◌, ◌∙◌, ℕ, ◌+◌, List, [], ◌++◌, ap, append_assoc, arith}
use Rattle.std.specs.Prelude.{Option}
use Rattle.tk_report.specs.declared.report_lines.Lines.{Lines}
use Rattle.tk_report.specs.Lines.{IsNoted}
use Rattle.tk_report.specs.Report.{differs_text}

-- lines after a record's come after the record's
pub text-noted : {A : Type 0} (before middle next : Lines A) (line : List ℕ) (missed : Option ℕ)
    (later : List ℕ) → IsNoted before line missed middle →
    next.text.items ≡ middle.text.items ++ later →
    next.text.items
    ≡ before.text.items ++ (line ++ (differs_text (before.records + 1) missed ++ later))
text-noted before middle next line missed later noted text =
    let told = differs_text (before.records + 1) missed in
    text
    ∙ ap (λ (t : List ℕ). t ++ later) noted.text
    ∙ append_assoc before.text.items (line ++ told) later
    ∙ ap (λ (l : List ℕ). before.text.items ++ l) (append_assoc line told later)

-- a record's line was appended, and then it was counted
pub noted-after : {A : Type 0} (before middle next : Lines A) (line : List ℕ)
    (missed : Option ℕ) → middle.text.items ≡ before.text.items ++ line →
    middle.records ≡ before.records → middle.differences ≡ before.differences →
    IsNoted middle [] missed next → IsNoted before line missed next
noted-after before middle next line missed text records differences noted = record {
  text = noted.text
      ∙ ap (λ (t : List ℕ). t ++ differs_text (middle.records + 1) missed) text
      ∙ append_assoc before.text.items line (differs_text (middle.records + 1) missed)
      ∙ ap (λ n. before.text.items ++ (line ++ differs_text (n + 1) missed)) records;
  records = noted.records ∙ ap (λ n. n + 1) records;
  differences = omega (arith, noted.differences, differences);
}

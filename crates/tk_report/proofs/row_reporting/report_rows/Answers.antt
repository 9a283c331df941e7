use Rattle.tk_script.specs.Coming.{coming}
use Rattle.tk_report.proofs.Starts.{report-plain, report-steered}
use Rattle.tk_report.proofs.row_reporting.report_rows.Goals as goal

pub returns-in-Plain : goal.returns-in-Plain
returns-in-Plain g c =
    report-plain c.args.keep c.args.start c.in-Plain.start (coming c.args.rows.now)
    (λ report. report.text.items) (λ report. report.differences) c.report_plain.result
    (rw c.in-Plain.is at c.begin.ensures) c.report_plain.ensures

pub returns-in-Steered : goal.returns-in-Steered
returns-in-Steered g c =
    report-steered c.args.keep c.args.start c.in-Steered.clocks (coming c.args.rows.now)
    (λ report. report.text.items) (λ report. report.differences) c.report_steered.result
    (rw c.in-Steered.is at c.begin.ensures) c.report_steered.ensures

use Rattle.std.specs.Prelude.{None}
use Rattle.tk_script.specs.Coming.{coming}
use Rattle.tk_report.proofs.Lines.{report-opened}
use Rattle.tk_replay.proofs.many.outcome_of.Goals as goal

pub returns : goal.returns
returns c =
    let opened = c.in_ok-start.ensures.gives in
    report-opened None c.args.script.now c.in_ok-start.start
    (coming c.in_ok-start.rows) (λ report. report.text.items) (λ report. report.differences)
    c.report_rows.result opened.1 c.report_rows.ensures

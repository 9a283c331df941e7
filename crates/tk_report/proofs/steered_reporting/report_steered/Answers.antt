use Rattle.std.proofs.Common.{◌≡◌, ◌∙◌, ap, arith}
use Rattle.tk_clock.specs.Snapshot.{Snapshot}
use Rattle.tk_keeper.specs.Keeper.{Keeper}
use Rattle.tk_script.specs.Coming.{coming}
use Rattle.tk_script.specs.Lines.{open_line}
use Rattle.tk_report.specs.SteeredReport.{journal_in}
use Rattle.tk_report.proofs.SteeredLines.{report-of}
use Rattle.tk_report.proofs.steered_reporting.report_steered.Goals as goal

pub obey_all-requires-clause-room : goal.obey_all-requires-clause-room
obey_all-requires-clause-room g c =
    let opened = c.in_ok-lines.ensures.ok in record {
      records = omega (arith, opened.1, c.requires.count);
      differences = omega (arith, opened.1, opened.2);
    }

pub returns : goal.returns
returns g c =
    let opened = c.in_ok-lines.ensures.ok in
    let counter : c.desc.result ≡ (journal_in c.args.first).opening.counter =
    c.desc.ensures ∙ ap (λ (s : Snapshot). s.base.counter) c.snapshot.ensures.value
    ∙ ap (λ (k : Keeper). k.journal.opening.counter) c.keeper.ensures.keeper in
    rw (c.finish.ensures.text, c.finish.ensures.differences)
    (report-of (coming c.args.rows.now) _ c.obey_all.new.obeying (opened.0 ∙ ap open_line counter)
    opened.1 opened.2 c.in_ok-obey_all.ensures)

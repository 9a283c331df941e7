use Rattle.std.proofs.Common.{◌≡◌, ◌∙◌, ap, arith}
use Rattle.tk_clock.specs.Snapshot.{Snapshot}
use Rattle.tk_clock.specs.State.{State}
use Rattle.tk_script.specs.Coming.{coming}
use Rattle.tk_script.specs.Lines.{open_line}
use Rattle.tk_script.specs.Start.{journal_at}
use Rattle.tk_report.specs.Beginnings.{start_of}
use Rattle.tk_report.proofs.Beginnings.{few-at}
use Rattle.tk_report.proofs.PlainLines.{report-of}
use Rattle.tk_report.proofs.reporting.report_plain.Goals as goal

pub obey_all-requires-clause-room : goal.obey_all-requires-clause-room
obey_all-requires-clause-room g c =
    let kept = c.begin-clocks.ensures in
    let opened = c.in_ok-lines.ensures.ok in
    let few = c.requires.ready.count in record {
      lines = record {
        records = omega (arith, opened.1, few);
        differences = omega (arith, opened.1, opened.2);
      };
      keep = c.args.keep;
      journal = journal_at (start_of c.args.start);
      kept = kept;
      few = omega (arith, kept.count, few-at c.args.start c.requires.opens, few);
    }

pub returns : goal.returns
returns g c =
    let start = start_of c.args.start in
    let kept = c.begin-clocks.ensures in
    let opened = c.in_ok-lines.ensures.ok in
    let counter : c.desc.result ≡ (journal_at start).opening.counter =
    c.desc.ensures ∙ ap (λ (s : Snapshot). s.base.counter) c.snapshot.ensures
    ∙ ap (λ (s : State). s.base.counter) kept.clock in
    rw (c.finish.ensures.text, c.finish.ensures.differences)
    (report-of c.args.keep start (coming c.args.rows.now) _ c.obey_all.new.obeying kept
    (opened.0 ∙ ap open_line counter) opened.1 opened.2 c.in_ok-obey_all.ensures)

use Rattle.std.proofs.Common.{◌≡◌, ◌∙◌, ◌++◌, ap, rules}
use Rattle.tk_clock.specs.declared.refusal.Refusal.{Refusal}
use Rattle.tk_clock.specs.Refusal.{refusal_of}
use Rattle.tk_clock.specs.Snapshot.{Snapshot}
use Rattle.tk_script.specs.Lines.{no_line}
use Rattle.tk_report.proofs.Looks.{looked-at, looked-refused}
use Rattle.tk_report.proofs.Times.{IsWritable-read}
use Rattle.tk_report.proofs.reporting.add_look.Goals as goal

pub line_at-requires : goal.line_at-requires
line_at-requires g c =
    let read = c.in-Ok.ensures in
    IsWritable-read c.args.now.now.base c.args.clock c.args.reading c.in-Ok.time read.0
    (read.1, read.2, read.3)

pub returns-in_ok-line_at-in-Ok-clause-ok : goal.returns-in_ok-line_at-in-Ok-clause-ok
returns-in_ok-line_at-in-Ok-clause-ok g c = λ journal same.
    let read = c.in-Ok.ensures in
    let line = c.in_ok-line_at-in-Ok.ensures.ok in
    let looked = looked-at journal c.args.now.now.base c.args.clock c.args.reading c.args.expected
    c.missed_by.result c.in-Ok.time line.0 (ap (λ (s : Snapshot). s.base) same) read.0
    (read.1, read.2, read.3) line.2 c.missed_by.ensures in
    ((line.0, looked.0, line.1), looked.1)

pub returns-in_ok-line_no-in-Err-clause-ok : goal.returns-in_ok-line_no-in-Err-clause-ok
returns-in_ok-line_no-in-Err-clause-ok g c = λ journal same.
    let looked = looked-refused journal c.args.now.now.base c.args.clock c.args.reading
    c.args.expected c.in-Err.error (ap (λ (s : Snapshot). s.base) same) c.in-Err.ensures in
    let told : c.into.result ≡ refusal_of c.in-Err.error = search rules in (
      (
        no_line (refusal_of c.in-Err.error),
        looked.0,
        c.in_ok-line_no-in-Err.ensures.ok
            ∙ ap (λ (r : Refusal). c.args.text.now.items ++ no_line r) told,
      ),
      looked.1,
    )

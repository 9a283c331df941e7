use Rattle.std.proofs.Common.{◌≡◌, ◌∙◌, List, ℕ, ap, rules, subst, sym}
use Rattle.tk_clock.specs.Refusal.{refusal_of}
use Rattle.tk_clock.specs.Snapshot.{Snapshot}
use Rattle.tk_keeper.specs.Read.{read_fault}
use Rattle.tk_script.specs.Lines.{no_line}
use Rattle.tk_report.specs.Report.{IsLookLine}
use Rattle.tk_report.proofs.Looks.{looked-at, looked-refused}
use Rattle.tk_report.proofs.Times.{IsWritable-read}
use Rattle.tk_session.proofs.plain.look.Goals as goal

pub at-requires : goal.at-requires
at-requires c =
    let read = c.in-Ok.ensures in
    IsWritable-read c.args.now.now.base c.args.clock c.args.reading c.in-Ok.time read.0
    (read.1, read.2, read.3)

pub missed_by-requires : goal.missed_by-requires
missed_by-requires c =
    let read = c.in-Ok.ensures in
    IsWritable-read c.args.now.now.base c.args.clock c.args.reading c.in-Ok.time read.0
    (read.1, read.2, read.3)

pub returns-in-Ok-clause-looked : goal.returns-in-Ok-clause-looked
returns-in-Ok-clause-looked c = λ journal same.
    let read = c.in-Ok.ensures in
    let looked = looked-at journal c.args.now.now.base c.args.clock c.args.reading c.args.expected
    c.missed_by.result c.in-Ok.time c.at.result (ap (λ (s : Snapshot). s.base) same) read.0
    (read.1, read.2, read.3) c.at.ensures c.missed_by.ensures in
    rw c.of.ensures.text looked

pub returns-in-Err-clause-looked : goal.returns-in-Err-clause-looked
returns-in-Err-clause-looked c = λ journal same.
    let clock = c.args.clock in
    let reading = c.args.reading in
    let error = c.in-Err.error in
    let looked = looked-refused journal c.args.now.now.base clock reading c.args.expected error
    (ap (λ (s : Snapshot). s.base) same) c.in-Err.ensures in
    let told : c.into.result ≡ refusal_of error = search rules in
    let line : c.of-in-Err.result ≡ no_line (refusal_of error) =
    c.of-in-Err.ensures.text ∙ c.no.ensures ∙ ap no_line told in (
      subst (λ (l : List ℕ). IsLookLine journal clock reading (read_fault journal clock reading) l)
          (sym line) looked.0,
      looked.1,
    )

use Rattle.std.proofs.Common.{◌≡◌, ◌∙◌, ap, rules}
use Rattle.std.specs.Prelude.{None}
use Rattle.tk_clock.specs.declared.clock_id.ClockId.TheVariants.{Monotonic}
use Rattle.tk_clock.specs.Refusal.{refusal_of}
use Rattle.tk_clock.specs.Snapshot.{Snapshot, snapshot_of}
use Rattle.tk_script.specs.Lines.{no_line, ok_line}
use Rattle.tk_report.proofs.KeptClocks.{snapshot-kept}
use Rattle.tk_report.proofs.Times.{IsWritable-read}
use Rattle.tk_session.proofs.Accepted.{accepted-read, accepted-unread}
use Rattle.tk_session.proofs.steered.accepted.Goals as goal

pub ok-requires : goal.ok-requires
ok-requires c =
    let read = c.in-Ok.ensures in
    IsWritable-read c.snapshot.result.base Monotonic c.args.reading c.in-Ok.time read.0
    (read.1, read.2, read.3)

pub returns-in-Ok : goal.returns-in-Ok
returns-in-Ok c = λ journal kept.
    let read = c.in-Ok.ensures in
    let now : c.snapshot.result ≡ snapshot_of journal =
    c.snapshot.ensures ∙ snapshot-kept None c.args.clocks.now journal kept in
    accepted-read journal c.snapshot.result.base c.args.reading c.args.clocks.now.count c.ok.result
    c.in-Ok.time (ap (λ (s : Snapshot). s.base) now) read.0 (read.1, read.2, read.3)
    (c.ok.ensures ∙ ap (λ n. ok_line n c.in-Ok.time) c.count.ensures)

pub returns-in-Err : goal.returns-in-Err
returns-in-Err c = λ journal kept.
    let error = c.in-Err.error in
    let now : c.snapshot.result ≡ snapshot_of journal =
    c.snapshot.ensures ∙ snapshot-kept None c.args.clocks.now journal kept in
    let told : c.into.result ≡ refusal_of error = search rules in
    accepted-unread journal c.snapshot.result.base c.args.reading c.args.clocks.now.count
    c.no.result error (ap (λ (s : Snapshot). s.base) now) c.in-Err.ensures
    (c.no.ensures ∙ ap no_line told)

use Rattle.std.proofs.Common.{◌≡◌, ◌∙◌, ap, sym}
use Rattle.tk_clock.specs.Snapshot.{Snapshot}
use Rattle.tk_script.specs.Lines.{open_line}
use Rattle.tk_script.specs.Start.{journal_at}
use Rattle.tk_session.proofs.Sessions.{counter-of}
use Rattle.tk_session.proofs.session.Session.open.Goals as goal

pub returns-in-Ok : goal.returns-in-Ok
returns-in-Ok c =
    let start = c.in-Ok.start in
    let session = c.begin-session.result in
    let clocks = c.begin-session.ensures.clocks in
    let counter : c.desc.result ≡ (journal_at start).opening.counter =
    c.desc.ensures ∙ ap (λ (s : Snapshot). s.base.counter) c.snapshot.ensures
    ∙ counter-of start session clocks in record {
      start = start;
      plain = sym c.is_first.ensures ∙ c.if-not-is_first.false;
      opening = sym c.in-Ok.ensures.value;
      clocks = clocks;
      opens = c.of-text.ensures.text ∙ c.open.ensures ∙ ap open_line counter;
      records = c.begin-session.ensures.records;
      differences = c.begin-session.ensures.differences;
    }

pub returns-in-Err : goal.returns-in-Err
returns-in-Err c = (sym c.is_first.ensures ∙ c.if-not-is_first.false, sym c.in-Err.ensures.value)

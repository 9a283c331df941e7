use Rattle.std.proofs.Common.{◌≡◌, ◌∙◌, refl}
use Rattle.std.proofs.lemmas.Result.{IfOk-weaker}
use Rattle.tk_clock.specs.Snapshot.{snapshot_of}
use Rattle.tk_report.specs.Folding.{rule_of}
use Rattle.tk_report.specs.Report.{change_reply, event, reply_by, reply_line}
use Rattle.tk_report.proofs.KeptClocks.{snapshot-kept}
use Rattle.tk_report.proofs.reporting.add_line.Goals as goal

pub returns-in_ok-add_reply-in-Act-clause-ok : goal.returns-in_ok-add_reply-in-Act-clause-ok
returns-in_ok-add_reply-in-Act-clause-ok g c = λ keep journal kept.
    let reading = c.in-Act.reading in
    let reply = reply_by (rule_of keep) journal (event reading c.in-Act.cmd) in
    let replied = c.in_ok-add_reply-in-Act.ensures in
    rw c.in-Act.is (
      (reply_line reading reply, refl, replied.line keep journal kept),
      replied.kept keep journal kept,
      refl,
    )

pub returns-in-Look-clause-ok : goal.returns-in-Look-clause-ok
returns-in-Look-clause-ok g c = λ keep journal kept.
    let now : c.snapshot.result ≡ snapshot_of journal =
    c.snapshot.ensures ∙ snapshot-kept keep c.args.clocks.now journal kept in
    rw c.in-Look.is (IfOk-weaker c.add_look.result _ _
    (λ value looked. (looked.0, kept, looked.1)) (c.add_look.ensures.ok journal now))

pub returns-in_ok-add_answer-in-Change-clause-ok :
    goal.returns-in_ok-add_answer-in-Change-clause-ok
returns-in_ok-add_answer-in-Change-clause-ok g c = λ keep journal kept.
    let first = c.in-Change.first in
    let reply = change_reply journal c.in-Change.reading c.in-Change.desc first in
    let replied = c.change_counter-answer.ensures keep journal kept in
    rw c.in-Change.is (
      (
        reply_line first reply,
        refl,
        c.in_ok-add_answer-in-Change.ensures.line keep first reply replied,
      ),
      replied.kept,
      refl,
    )

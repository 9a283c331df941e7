use Rattle.std.proofs.Common.{◌∙◌, refl}
use Rattle.std.specs.Prelude.{None}
use Rattle.tk_report.specs.Report.{change_reply}
use Rattle.tk_session.proofs.plain.tell.Goals as goal

pub returns-in-Change-clause-told : goal.returns-in-Change-clause-told
returns-in-Change-clause-told c = λ journal kept.
    let first = c.in-Change.first in
    let reply = change_reply journal c.in-Change.reading c.in-Change.desc first in
    let replied = c.change_counter-answer.ensures None journal kept in
    rw c.in-Change.is (
      c.of-in-Change.ensures.text ∙ c.line_of-in-Change.ensures first reply replied,
      refl,
      replied.kept,
    )

use Rattle.tk_report.specs.Folding.{rule_of}
use Rattle.tk_report.specs.Report.{event, reply_by}
use Rattle.tk_report.proofs.reporting.add_reply.Goals as goal

pub returns-clause-line : goal.returns-clause-line
returns-clause-line g c = λ keep journal kept.
    c.add_answer.ensures.line keep c.args.reading
    (reply_by (rule_of keep) journal (event c.args.reading c.args.cmd))
    (c.apply-answer.ensures keep journal kept)

pub returns-clause-kept : goal.returns-clause-kept
returns-clause-kept g c = λ keep journal kept. (c.apply-answer.ensures keep journal kept).kept

use Rattle.tk_session.proofs.Texts.{script-faulty, script-reported, script-unopened}
use Rattle.tk_session.proofs.whole_script.lines_are_the_report.Goals as goal

pub returns-clause-lines : goal.returns-clause-lines
returns-clause-lines c = script-reported

pub returns-clause-fault : goal.returns-clause-fault
returns-clause-fault c = script-faulty

pub returns-clause-opening : goal.returns-clause-opening
returns-clause-opening c = script-unopened

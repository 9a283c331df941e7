use Rattle.tk_script.specs.Coming.{coming}
use Rattle.tk_report.proofs.Starts.{began-opened, journal-opened}
use Rattle.tk_report.proofs.journaling.keeper_of.Goals as goal

pub returns-clause-answer : goal.returns-clause-answer
returns-clause-answer c =
    let opened = c.in_ok-start.ensures.gives in
    journal-opened c.args.script.now c.in_ok-start.start (coming c.in_ok-start.rows)
    (λ keeper. keeper.journal) c.keeper_after.result opened.1 c.keeper_after.ensures.answer

pub returns-clause-began : goal.returns-clause-began
returns-clause-began c =
    let opened = c.in_ok-start.ensures.gives in
    began-opened c.args.script.now c.in_ok-start.start (coming c.in_ok-start.rows)
    (λ keeper. keeper.began) c.keeper_after.result opened.1 c.keeper_after.ensures.began

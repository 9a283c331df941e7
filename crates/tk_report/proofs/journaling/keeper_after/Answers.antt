use Rattle.std.proofs.Common.{◌≡◌, subst, sym}
use Rattle.std.specs.Prelude.{IfOk}
use Rattle.tk_clock.specs.Legal.{Beginning}
use Rattle.tk_script.specs.declared.opening.Start.{Start}
use Rattle.tk_script.specs.Coming.{coming}
use Rattle.tk_report.specs.Began.{began_by}
use Rattle.tk_report.proofs.Starts.{began-steered, journal-plain, journal-steered}
use Rattle.tk_report.proofs.journaling.keeper_after.Goals as goal

pub returns-in-Plain-clause-answer : goal.returns-in-Plain-clause-answer
returns-in-Plain-clause-answer g c =
    journal-plain c.args.start c.in-Plain.start (coming c.args.rows.now) (λ keeper. keeper.journal)
    c.plain_after.result (rw c.in-Plain.is at c.begin.ensures) c.plain_after.ensures.answer

pub returns-in-Plain-clause-began : goal.returns-in-Plain-clause-began
returns-in-Plain-clause-began g c =
    subst (λ (s : Start). IfOk c.plain_after.result (λ keeper. keeper.began ≡ began_by s))
    (sym (rw c.in-Plain.is at c.begin.ensures)) c.plain_after.ensures.began

pub returns-in-Steered-clause-answer : goal.returns-in-Steered-clause-answer
returns-in-Steered-clause-answer g c =
    journal-steered c.args.start c.in-Steered.clocks (coming c.args.rows.now)
    (λ keeper. keeper.journal) c.steered_after.result (rw c.in-Steered.is at c.begin.ensures)
    c.steered_after.ensures.answer

pub returns-in-Steered-clause-began : goal.returns-in-Steered-clause-began
returns-in-Steered-clause-began g c =
    subst (λ (b : Beginning). IfOk c.steered_after.result (λ keeper. keeper.began ≡ b))
    (began-steered c.args.start c.in-Steered.clocks (rw c.in-Steered.is at c.begin.ensures))
    c.steered_after.ensures.began

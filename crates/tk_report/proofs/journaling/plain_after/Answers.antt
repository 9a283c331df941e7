use Rattle.std.proofs.Common.{◌∙◌, ap, arith}
use Rattle.tk_clock.specs.Journal.{accepted_count}
use Rattle.std.proofs.lemmas.Result.{err_from_is_err_and}
use Rattle.tk_script.specs.Coming.{coming}
use Rattle.tk_script.specs.Start.{journal_at}
use Rattle.tk_report.specs.Beginnings.{start_of}
use Rattle.tk_report.proofs.Beginnings.{few-at}
use Rattle.tk_report.proofs.Journals.{Fails-journal_after, began-of, journal-of}
use Rattle.tk_report.proofs.journaling.plain_after.Goals as goal

pub obey_all-requires-clause-room : goal.obey_all-requires-clause-room
obey_all-requires-clause-room g c =
    omega (
      arith,
      ap accepted_count c.keeper-keeper.ensures.journal,
      few-at c.args.start c.requires.opens,
      c.requires.ready.count,
    )

pub returns-in_err-obey_all-clause-answer : goal.returns-in_err-obey_all-clause-answer
returns-in_err-obey_all-clause-answer g c =
    let exit = err_from_is_err_and c.from_residual.result c.from_residual.ensures.1 in
    rw (exit.1, exit.2)
    (Fails-journal_after (journal_at (start_of c.args.start)) (coming c.args.rows.now)
    c.in_err-obey_all.field-0.0 c.in_err-obey_all.ensures)

pub returns-clause-answer : goal.returns-clause-answer
returns-clause-answer g c =
    rw c.keeper-keeper.ensures.journal at
    (journal-of (coming c.args.rows.now) c.keeper-keeper.result c.obey_all.new.obeying
    c.in_ok-obey_all.ensures)

pub returns-clause-began : goal.returns-clause-began
returns-clause-began g c =
    began-of (coming c.args.rows.now) c.keeper-keeper.result c.obey_all.new.obeying
    c.in_ok-obey_all.ensures
    ∙ c.keeper-keeper.ensures.began

use Rattle.std.proofs.Common.{◌∙◌, ap, subst, sym}
use Rattle.tk_keeper.specs.Keeper.{Keeper}
use Rattle.tk_script.specs.Coming.{coming}
use Rattle.tk_report.specs.SteeredReport.{IsSteeredJournalOfRows}
use Rattle.tk_report.proofs.SteeredBegan.{began-of}
use Rattle.tk_report.proofs.SteeredLines.{journal-of}
use Rattle.tk_report.proofs.steered_journaling.steered_after.Goals as goal

pub returns-clause-answer : goal.returns-clause-answer
returns-clause-answer g c =
    let first = c.args.first in
    let all = coming c.args.rows.now in
    subst (λ (k : Keeper). IsSteeredJournalOfRows first all k.journal)
    (sym c.into_keeper.ensures.keeper)
    (journal-of all first c.obey_all.new.obeying c.in_ok-obey_all.ensures)

pub returns-clause-began : goal.returns-clause-began
returns-clause-began g c =
    ap (λ (k : Keeper). k.began) c.into_keeper.ensures.keeper
    ∙ began-of (coming c.args.rows.now) c.args.first c.obey_all.new.obeying
    c.in_ok-obey_all.ensures

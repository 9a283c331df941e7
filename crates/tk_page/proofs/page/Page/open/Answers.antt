use Rattle.tk_page.specs.History.{opened_by}
use Rattle.tk_page.proofs.Shown.{shows}
use Rattle.tk_page.proofs.Steps.{makes, publisher_copies_as}
use Rattle.tk_page.proofs.page.Page.open.Goals as goal

pub made-requires : goal.made-requires
made-requires g c =
    let words = c.pack.ensures in
    makes (opened_by c.args.snapshot) _ (shows _ _ _ words.value words.back c.requires)

pub split-requires-clause-rule : goal.split-requires-clause-rule
split-requires-clause-rule g c = publisher_copies_as _ _ _ c.take_opening.ensures.view

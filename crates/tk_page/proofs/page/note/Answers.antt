use Rattle.std.proofs.Common.{◌∙◌, ap}
use Rattle.tk_page.specs.Views.{copy_of}
use Rattle.tk_page.proofs.Steps.{viewer_copies_as, notes_as}
use Rattle.tk_page.proofs.page.note.Goals as goal

pub split-noted-requires-clause-rule : goal.split-noted-requires-clause-rule
split-noted-requires-clause-rule c = viewer_copies_as _ _ _ _ c.requires.viewing

pub join-requires-clause-rule : goal.join-requires-clause-rule
join-requires-clause-rule c =
    let noted = c.split-noted.ensures.given ∙ ap copy_of c.requires.viewing in
    notes_as _ _ _ _ _ _ _ c.requires.publishing noted

use Rattle.tk_page.proofs.Steps.{compares_as}
use Rattle.tk_page.proofs.page.Page.tell.Goals as goal

pub load-words-requires-clause-rule : goal.load-words-requires-clause-rule
load-words-requires-clause-rule g c = compares_as _ _ _ _ c.note.ensures.noted

use Rattle.tk_page.proofs.Steps.{viewer_copies_as}
use Rattle.tk_page.proofs.viewer.Viewer.split.Goals as goal

pub split-other-requires-clause-rule : goal.split-other-requires-clause-rule
split-other-requires-clause-rule c = viewer_copies_as _ _ _ _ c.self.invariant.viewing

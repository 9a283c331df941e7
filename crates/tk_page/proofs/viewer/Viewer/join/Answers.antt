use Rattle.std.proofs.Common.{◌∙◌}
use Rattle.tk_page.proofs.Steps.{viewer_leaves_as, keeps_longer_as}
use Rattle.tk_page.proofs.viewer.Viewer.join.Goals as goal

pub split-whole-requires-clause-rule : goal.split-whole-requires-clause-rule
split-whole-requires-clause-rule c = viewer_leaves_as _ _ _ _ c.other.invariant.viewing

pub join-requires-clause-rule : goal.join-requires-clause-rule
join-requires-clause-rule c =
    let whole = c.split-whole.ensures.given ∙ c.other.invariant.viewing in
    keeps_longer_as _ _ _ _ _ _ _ _ c.self.invariant.viewing whole

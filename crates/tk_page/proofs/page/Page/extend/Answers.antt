use Rattle.std.proofs.Common.{◌∙◌, ap}
use Rattle.tk_page.specs.Views.{copy_of}
use Rattle.tk_page.proofs.Steps.{viewer_leaves_as, publisher_copies_as, keeps_longer_as}
use Rattle.tk_page.proofs.page.Page.extend.Goals as goal

pub split-known-requires-clause-rule : goal.split-known-requires-clause-rule
split-known-requires-clause-rule c = viewer_leaves_as _ _ _ _ c.viewer.invariant.viewing

pub split-whole-requires-clause-rule : goal.split-whole-requires-clause-rule
split-whole-requires-clause-rule c = publisher_copies_as _ _ _ c.publisher.invariant.0

pub join-requires-clause-rule : goal.join-requires-clause-rule
join-requires-clause-rule c =
    let known = c.split-known.ensures.given ∙ c.viewer.invariant.viewing in
    let whole = c.split-whole.ensures.given ∙ ap copy_of c.publisher.invariant.0 in
    keeps_longer_as _ _ _ _ _ _ _ _ whole known

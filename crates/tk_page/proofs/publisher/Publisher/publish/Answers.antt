use Rattle.std.proofs.Common.{◌∙◌, ap}
use Rattle.tk_page.specs.Views.{copy_of}
use Rattle.tk_page.proofs.Steps.{publisher_copies_as, notes_as}
use Rattle.tk_page.proofs.publisher.Publisher.publish.Goals as goal

pub split-own-requires-clause-rule : goal.split-own-requires-clause-rule
split-own-requires-clause-rule g c = publisher_copies_as _ _ _ c.self.invariant.0

pub join-requires-clause-rule : goal.join-requires-clause-rule
join-requires-clause-rule g c =
    let noted = c.split-own.ensures.given ∙ ap copy_of c.self.invariant.0 in
    let own = c.split-own.ensures.kept ∙ c.self.invariant.0 in
    notes_as _ _ _ _ _ _ _ own noted

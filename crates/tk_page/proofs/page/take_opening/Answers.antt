use Rattle.std.proofs.Common.{◌∙◌, sym, ap}
use Rattle.tk_clock.specs.Snapshot.{snapshot_of}
use Rattle.tk_page.proofs.Shown.{shows}
use Rattle.tk_page.proofs.Steps.{opens_as}
use Rattle.tk_page.proofs.page.take_opening.Goals as goal

pub store-requires-clause-rule : goal.store-requires-clause-rule
store-requires-clause-rule g c =
    let words = c.pack.ensures in
    let of = c.requires.snapshot ∙ ap snapshot_of (sym c.requires.journal) in
    opens_as _ _ _ _ c.requires.view (shows _ _ _ words.value words.back of)

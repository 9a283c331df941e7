use Rattle.std.proofs.Common.{◌∙◌, sym, ap}
use Rattle.crossbeam_utils.specs.Seq.{cell_view}
use Rattle.tk_clock.specs.declared.command.Entry.{Entry}
use Rattle.tk_clock.specs.Journal.{followed_by}
use Rattle.tk_clock.specs.Snapshot.{snapshot_of}
use Rattle.tk_page.specs.Views.{journal_of}
use Rattle.tk_page.proofs.Shown.{shows}
use Rattle.tk_page.proofs.Steps.{publishes_as}
use Rattle.tk_page.proofs.publisher.publish_entry.Goals as goal

pub store-requires-clause-rule : goal.store-requires-clause-rule
store-requires-clause-rule g c =
    let words = c.pack.ensures in
    let own = journal_of (cell_view c.args.pass.now) in
    let of = c.requires.snapshot
    ∙ ap (λ (e : Entry). snapshot_of (followed_by own e)) (sym c.requires.entry) in
    publishes_as _ _ _ _ c.requires.view (shows _ _ _ words.value words.back of)

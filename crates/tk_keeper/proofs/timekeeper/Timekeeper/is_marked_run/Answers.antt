use Rattle.std.proofs.Common.{◌≡◌, ◌+◌, ◌-◌, ◌/◌, subst, arith}
use Rattle.std.specs.Prelude.{Some, slice_get}
use Rattle.tk_clock.specs.Folding.{journal_from}
use Rattle.tk_clock.specs.Journal.{Journal}
use Rattle.tk_keeper.specs.Keeper.{Keeper}
use Rattle.tk_keeper.specs.Runs.{IsRun, AreRuns}
use Rattle.tk_keeper.proofs.Steps.{listed_item}
use Rattle.tk_keeper.proofs.timekeeper.Timekeeper.is_marked_run.Goals as goal

pub returns-then-place-from-lt-KEPT_EVERY : goal.returns-then-place-from-lt-KEPT_EVERY
returns-then-place-from-lt-KEPT_EVERY g c = λ marked.
    let keeper = c.self.inside in
    let journal : Journal = journal_from keeper.folded keeper.start keeper.entries.items in
    let from = c.args.from in
    let place = c.args.place in
    let next = (keeper.folded + from) / 256 - keeper.folded / 256 in
    let kept = c.row.result.now in
    let found : slice_get keeper.kept.items next ≡ Some kept =
    listed_item keeper.kept.items next kept (omega (arith, c.if-next-len.false, c.len.ensures))
    c.row.ensures in
    let stated = c.self.invariant.1.stated next (from + 256) kept found
    (omega (arith, c.if-folded-from-ne0.false)) in
    let runs = stated.run (omega arith) marked in
    let first : from + 256 - 256 ≡ from = omega arith in
    subst (λ (k : Keeper). AreRuns k.journal from place) c.self.view_is
    (λ end low high. subst (λ n. IsRun journal n end) first (runs end (omega arith)
    (omega (arith, high, c.if-place-from-lt-KEPT_EVERY.true))))

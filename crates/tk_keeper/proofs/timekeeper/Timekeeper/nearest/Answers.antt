use Rattle.std.proofs.Common.{◌≡◌, ◌∙◌, ◌+◌, ◌-◌, ◌*◌, ◌/◌, ◌<◌, length, ap, arith}
use Rattle.std.specs.Prelude.{Some, slice_get}
use Rattle.tk_clock.specs.Journal.{prefix}
use Rattle.tk_clock.specs.State.{state_of}
use Rattle.tk_keeper.specs.Keeper.{Keeper}
use Rattle.tk_keeper.proofs.Steps.{listed_item}
use Rattle.tk_keeper.proofs.timekeeper.Timekeeper.nearest.Goals as goal

pub returns-clause-cursor : goal.returns-clause-cursor
returns-clause-cursor g c =
    let keeper = c.self.inside in
    let kept = c.row.result.now in
    let i = (keeper.folded + c.args.place) / 256 - keeper.folded / 256 - 1 in
    let there = (keeper.folded + c.args.place) / 256 * 256 - keeper.folded in
    let listed = ap (λ (k : Keeper). length k.journal.entries) c.self.view_is in
    let within : i < length keeper.kept.items =
    omega (arith, listed, c.requires, c.self.invariant.1.all, c.if-kept-eq0.false) in
    let found : slice_get keeper.kept.items i ≡ Some kept =
    listed_item keeper.kept.items i kept within c.row.ensures in
    let stated = c.self.invariant.1.stated i there kept found (omega (arith, c.if-kept-eq0.false)) in
    stated.clock ∙ ap (λ (k : Keeper). state_of (prefix there k.journal)) c.self.view_is

use Rattle.std.proofs.Common.{◌≡◌, ◌-◌, ◌≤◌, length, sym, ap, ◌∙◌, subst, arith}
use Rattle.tk_clock.specs.Journal.{Journal}
use Rattle.tk_keeper.specs.Keeper.{Keeper}
use Rattle.tk_keeper.specs.Past.{IsFolded}
use Rattle.tk_keeper.proofs.Folding.{IsFolded-folded}
use Rattle.tk_keeper.proofs.timekeeper.Timekeeper.fold.Goals as goal
use Rattle.tk_clock.specs.Folding.{journal_from, folded_by}

pub returns-clause-same : goal.returns-clause-same
returns-clause-same g c =
    let n = c.saturating_sub-places.result in
    let keeper = c.self.inside in
    let before : Journal = journal_from keeper.folded keeper.start keeper.entries.items in
    let inside : n ≤ length before.entries = omega arith in
    let folded = IsFolded-folded before n inside c.self.invariant.0.legal.accepted in
    subst (λ (j : Journal). IsFolded c.args.self.now.journal j) (sym c.fold_first.ensures.journal)
    (subst (λ (k : Keeper). IsFolded k.journal (folded_by n k.journal)) c.self.view_is folded)

pub returns-clause-journal : goal.returns-clause-journal
returns-clause-journal g c =
    let n = c.saturating_sub-places.result in
    let before = c.args.self.now.journal in
    let now = ap (λ (k : Keeper). k.journal.opening.count) c.self-2.view_is in
    let grown = ap (λ (j : Journal). j.opening.count) c.fold_first.ensures.journal in
    let places : n ≡ c.self-2.inside.folded - before.opening.count = omega (arith, now, grown) in
    c.fold_first.ensures.journal ∙ ap (λ k. folded_by k before) places

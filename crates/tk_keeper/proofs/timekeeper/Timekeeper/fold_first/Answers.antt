use Rattle.std.proofs.Common.{◌≡◌, ◌∙◌, ◌+◌, ◌≤◌, List, length, sym, ap, subst, arith}
use Rattle.tk_clock.specs.declared.command.Entry.{Entry}
use Rattle.tk_clock.specs.Journal.{Journal, prefix}
use Rattle.tk_clock.specs.State.{State, state_of}
use Rattle.tk_keeper.specs.Keeper.{Keeper, IsKept, began_with}
use Rattle.tk_keeper.proofs.Kept.{HasKept-folded}
use Rattle.tk_keeper.proofs.Room.{IsKept-folded}
use Rattle.tk_keeper.proofs.timekeeper.Timekeeper.fold_first.Goals as goal
use Rattle.tk_clock.specs.Folding.{journal_from, folded_by}

pub invariant_of-self : goal.invariant_of-self
invariant_of-self g c =
    let keeper = c.self.inside in
    let journal : Journal = journal_from keeper.folded keeper.start keeper.entries.items in
    let n = c.args.places in
    let start : c.clock_at-start.result ≡ state_of (prefix n journal) =
    c.clock_at-start.ensures
    ∙ ap (λ (k : Keeper). state_of (prefix n k.journal)) (sym c.self.view_is) in
    let same : journal_from (keeper.folded + n) c.clock_at-start.result c.discard.new.self.items
    ≡ folded_by n journal =
    ap (λ (s : State). journal_from (keeper.folded + n) s c.discard.new.self.items) start
    ∙ ap (λ (es : List Entry). journal_from (keeper.folded + n) (state_of (prefix n journal)) es)
    c.discard.ensures.items in
    let inside : n ≤ length journal.entries =
    subst (λ (k : Keeper). n ≤ length k.journal.entries) (sym c.self.view_is) c.requires in
    let kept = IsKept-folded (began_with keeper.given) journal n keeper.clock inside c.self.invariant.0 in
    let later = HasKept-folded journal n _ keeper.start keeper.kept.items inside
    c.self.invariant.0.legal.accepted (omega arith) c.self.invariant.1 in (
      subst (λ (j : Journal). IsKept (began_with keeper.given) j keeper.clock) (sym same) kept,
      rw (same, start, c.discard-2.ensures.items) later,
    )

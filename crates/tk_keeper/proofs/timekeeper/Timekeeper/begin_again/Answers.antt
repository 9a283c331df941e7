use Rattle.std.proofs.Common.{◌≡◌, ◌+◌, ◌∙◌, [], sym, ap, subst, arith}
use Rattle.std.proofs.lemmas.List.{drop_all}
use Rattle.tk_clock.specs.Journal.{accepted_count}
use Rattle.tk_clock.specs.Legal.{Beginning, IsStart, folded_opening}
use Rattle.tk_keeper.specs.Keeper.{Keeper, began_with}
use Rattle.tk_keeper.proofs.ChangeCounter.{IsKept-begun, HasKept-begun}
use Rattle.tk_keeper.proofs.timekeeper.Timekeeper.begin_again.Goals as goal

pub invariant_of-self : goal.invariant_of-self
invariant_of-self g c =
    let keeper = c.self.inside in
    let count = accepted_count c.args.self.now.journal in
    let shown = ap (λ (k : Keeper). accepted_count k.journal) c.self.view_is in
    let places = c.len-places.ensures in
    let number : keeper.folded + (c.len-places.result + 1) ≡ count + 1 =
    omega (arith, shown, places) in
    let entries : c.discard.new.self.items ≡ [] =
    c.discard.ensures.items
    ∙ drop_all c.len-places.result keeper.entries.items (omega (arith, places)) in
    let kept : c.discard-2.new.self.items ≡ [] =
    c.discard-2.ensures.items
    ∙ drop_all c.len-kept.result keeper.kept.items (omega (arith, c.len-kept.ensures)) in
    let few = c.requires.counted in
    let began = ap (λ (k : Keeper). k.began) c.self.view_is in
    let starts = subst (λ (b : Beginning). IsStart b (folded_opening (count + 1) c.args.clock))
    (sym began) c.requires.starts in
    rw (entries, kept, number) (
      IsKept-begun (began_with keeper.given) (count + 1) c.args.clock starts c.requires.steered
          (omega (arith, few)),
      HasKept-begun (count + 1) c.args.clock c.requires.steered,
    )

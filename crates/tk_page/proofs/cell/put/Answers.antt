use Rattle.std.proofs.Common.{rules, ◌≡◌, refl, sym, ap, ◌∙◌, subst}
use Rattle.crossbeam_utils.proofs.SeqKeeps.{puts, publishes}
use Rattle.crossbeam_utils.specs.declared.atomic.seq_cell.Stage.TheVariants.{Writing}
use Rattle.tk_page.specs.declared.view.View.{View}
use Rattle.tk_page.proofs.Kept.{still_at}
use Rattle.tk_page.proofs.Stored.{compares}
use Rattle.tk_page.specs.Stored.{one_more, wanted}
use Rattle.tk_page.proofs.cell.put.Goals.{then-load-new, else-load-new}
use Rattle.tk_page.proofs.cell.put.Goals as goal

pub load-requires : goal.load-requires
load-requires g c = let held = c.requires.held in (
  search rules,
  search rules,
  compares _ _ _ _ _ _ _ (c.loop-i.invariant.1 held.0 held.1) (search rules),
)

pub store-requires : goal.store-requires
store-requires g c = let held = c.requires.held in
    let now = c.loop-i.invariant.1 held.0 held.1 in (
      search rules,
      search rules,
      puts _ _ _ _ _ _ _ _ _ _ _
          (c.load.ensures.2.2 (λ same. c.if-load-new.true (same ∙ ap wanted now)) ∙ now) (search rules) (search rules),
    )

pub loop-i-preserved : goal.loop-i-preserved
loop-i-preserved g c = elim c.if-load-new.branch [
  | then-load-new w ↦ rw w.pass-is (
    search rules,
    λ former e. let now = c.loop-i.invariant.1 former e in
        w.store.ensures.2.1 _ _ _ _ (c.load.ensures.2.2 (λ same. w.if-load-new.true (same ∙ ap wanted now)) ∙ now),
  )
  | else-load-new w ↦ rw w.pass-is (
    search rules,
    λ former e. let now = c.loop-i.invariant.1 former e in
        c.load.ensures.2.1 (w.if-load-new.false ∙ ap wanted (sym now)) ∙ ap one_more now,
  )
]

pub store-requires-2 : goal.store-requires-2
store-requires-2 g c =
    let e : c.loop-i.i ≡ 8 = search rules in let same = c.loop-i.invariant.0 in
    let held = c.requires.held in (
      search rules,
      search rules,
      publishes _ _ _ g.M.Outcome.then _ _ _ c.args.version held.0 c.args.new _
          (c.loop-i.invariant.1 held.0 held.1 ∙ ap (Writing c.args.version held.0 c.args.new) e)
          refl (search rules)
          (still_at g.M.Outcome.then _ _ _ _ same.1 same.2 _ _ held.2),
    )

pub returns-clause-rule : goal.returns-clause-rule
returns-clause-rule g c = let held = c.requires.held in (
  held.0,
  subst (λ (v : View). g.M.Outcome.then v held.0 c.args.new c.store-2.new.seat.me.0.client)
      c.loop-i.invariant.0.2
      (c.store-2.ensures.2 _ _ _ _ (c.loop-i.invariant.1 held.0 held.1)),
)

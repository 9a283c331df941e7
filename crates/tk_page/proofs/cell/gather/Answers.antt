use Rattle.std.proofs.Common.{rules, ◌≡◌, ℕ, ◌∙◌, subst, List}
use Rattle.crossbeam_utils.proofs.SeqKeeps.{peeks, gathers_one}
use Rattle.crossbeam_utils.specs.Seq.{Gathered}
use Rattle.tk_page.proofs.cell.gather.Goals as goal

pub load-requires : goal.load-requires
load-requires c = (search rules, search rules, peeks _ _ _ _ _ _ _ (search rules))

pub loop-i-preserved : goal.loop-i-preserved
loop-i-preserved c = (
  (search rules, search rules, c.load.ensures.2.0 ∙ c.loop-i.invariant.0.2),
  search rules,
  gathers_one _ _ _ _ _ _ _ (search rules) c.loop-i.invariant.2 c.load.ensures.2.1,
)

pub returns : goal.returns
returns c = (
  c.loop-i.invariant.0,
  let e : c.loop-i.i ≡ 8 = search rules in
      subst (λ (z : ℕ). Gathered (λ (x : List ℕ). x) z c.loop-i.words
      c.args.pass.now.me.0.stage c.loop-i.pass.me.0.stage) e c.loop-i.invariant.2,
)

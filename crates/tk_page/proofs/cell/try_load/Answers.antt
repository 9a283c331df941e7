use Rattle.std.proofs.Common.{rules}
use Rattle.crossbeam_utils.proofs.SeqKeeps.{looks, checks}
use Rattle.tk_page.proofs.Kept.{still_turns}
use Rattle.tk_page.proofs.cell.try_load.Goals as goal

pub load-version-requires : goal.load-version-requires
load-version-requires g c = (search rules, search rules, looks _ _ _ _ _ _)

pub load-requires : goal.load-requires
load-requires g c = (
  search rules,
  search rules,
  checks _ _ _ g.M.Outcome.then _ _ _
      (still_turns g.M.Outcome.then _ _ _ _ (search rules) (search rules) (λ x. x) c.requires.rule),
)

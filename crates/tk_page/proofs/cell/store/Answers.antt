use Rattle.tk_page.proofs.Kept.{still_turns_at}
use Rattle.tk_page.proofs.cell.store.Goals as goal

pub put-requires-clause-held : goal.put-requires-clause-held
put-requires-clause-held g c = let held = c.hold-version.ensures.held in let same = c.hold-version.ensures.same in (
  held.0,
  held.2,
  still_turns_at g.M.Outcome.then _ _ _ _ same.1 same.2 _ _ c.requires.rule,
)

use Rattle.tk_page.proofs.Kept.{still_turns}
use Rattle.tk_page.proofs.cell.load.Goals as goal

pub try_load-requires-clause-rule : goal.try_load-requires-clause-rule
try_load-requires-clause-rule g c = let same = c.loop.invariant in
    still_turns g.M.Outcome.then _ _ _ _ same.1 same.2 (λ x. x) c.requires.rule

pub load_held-requires-clause-rule : goal.load_held-requires-clause-rule
load_held-requires-clause-rule g c = let same = c.loop.invariant in
    still_turns g.M.Outcome.then _ _ _ _ same.1 same.2 (λ x. x) c.requires.rule

use Rattle.std.proofs.Common.{rules}
use Rattle.tk_replay.proofs.Outcomes.{outcomes_length, outcome_set}
use Rattle.tk_replay.proofs.worklist.Worklist.hand_in.Goals as goal

pub index_mut-requires : goal.index_mut-requires
index_mut-requires g c =
    let many = outcomes_length _ _ c.self.invariant.1 in
    search rules

pub invariant_of-self : goal.invariant_of-self
invariant_of-self g c =
    let at = c.finished.invariant.1 in
    let all = outcome_set g.S.NamesScripts.scripts c.self.inside.outcomes.items
    c.finished.inside.piece at.0 c.finished.inside.outcome c.self.invariant.1 at.1 at.2 in
    (search rules, all)

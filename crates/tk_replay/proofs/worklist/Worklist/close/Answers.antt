use Rattle.std.proofs.Common.{rules}
use Rattle.tk_replay.proofs.Outcomes.{outcomes_length}
use Rattle.tk_replay.proofs.worklist.Worklist.close.Goals as goal

pub returns-clause-taken : goal.returns-clause-taken
returns-clause-taken g c =
    let many = outcomes_length _ _ c.self.invariant.1 in
    search rules

use Rattle.std.proofs.Common.{rules}
use Rattle.tk_replay.proofs.Outcomes.{outcomes_length}
use Rattle.tk_replay.proofs.worklist.Worklist.take.Goals as goal

pub returns-then-self-len-clause-none : goal.returns-then-self-len-clause-none
returns-then-self-len-clause-none g c =
    let many = outcomes_length _ _ c.self.invariant.1 in
    search rules

pub invariant_of-result : goal.invariant_of-result
invariant_of-result g c =
    let many = outcomes_length _ _ c.self.invariant.1 in
    search rules

use Rattle.tk_ntp.proofs.Restored.{planned, plan_again}
use Rattle.tk_ntp.proofs.leap_plan.LeapPlan.of_numbers.Goals as goal

pub invariant_of-result : goal.invariant_of-result
invariant_of-result c = planned c.args.numbers c.requires

pub returns-clause-again : goal.returns-clause-again
returns-clause-again c = plan_again c.args.numbers c.requires

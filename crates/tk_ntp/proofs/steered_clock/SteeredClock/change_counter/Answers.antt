use Rattle.std.proofs.Common.{arith}
use Rattle.std.proofs.lemmas.Grind.{common_steps}
use Rattle.tk_ntp.proofs.ChangeLaws.{changed_kept, changed_sum}
use Rattle.tk_ntp.proofs.steered_clock.SteeredClock.change_counter.Goals as goal

pub returns-clause-answer : goal.returns-clause-answer
returns-clause-answer c = grind (arith, common_steps)

pub returns-clause-kept : goal.returns-clause-kept
returns-clause-kept c =
    changed_kept c.args.reading c.args.desc c.args.first c.args.self.now c.turn_over.new.self
    c.turn_over.result (returns-clause-answer c)

pub returns-clause-sum : goal.returns-clause-sum
returns-clause-sum c =
    changed_sum c.args.reading c.args.desc c.args.first c.args.self.now c.turn_over.new.self
    c.turn_over.result (returns-clause-answer c)

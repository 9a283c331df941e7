use Rattle.tk_clock.proofs.Ranges.{step-rest}
use Rattle.tk_clock.proofs.clock.Clock.step.Goals as goal

pub stepped-requires-clause-rest : goal.stepped-requires-clause-rest
stepped-requires-clause-rest c =
    step-rest c.args.self.now c.args.now.last c.args.by c.requires.early

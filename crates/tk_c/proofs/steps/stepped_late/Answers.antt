use Rattle.tk_c.proofs.StepTests.{step_past}
use Rattle.tk_c.proofs.steps.stepped_late.Goals as goal

pub returns-in-Err : goal.returns-in-Err
returns-in-Err c =
    rw c.in-Err.ensures.0
    (step_past c.args.snapshot.now.base c.args.reading c.args.by c.requires.early
    c.in-Err.ensures.1)

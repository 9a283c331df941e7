use Rattle.std.proofs.Common.{arith}
use Rattle.tk_ntp.proofs.Lengths.{phase_held, product_is, product_fits}
use Rattle.tk_ntp.proofs.phase.joined.Goals as goal

pub overflow_mul-result : goal.overflow_mul-result
overflow_mul-result c =
    rw c.from.ensures
    (product_fits c.args.part c.args.hz c.ranges.part (omega arith)
    (phase_held c.args.part c.args.hz c.requires.held))

pub returns : goal.returns
returns c =
    rw c.from.ensures
    (product_is c.args.part c.args.hz c.ranges.part (omega arith)
    (phase_held c.args.part c.args.hz c.requires.held))

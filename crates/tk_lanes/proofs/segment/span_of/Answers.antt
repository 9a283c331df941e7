use Rattle.std.proofs.Common.{◌-◌, ◌*◌, ◌^◌, ap, arith}
use Rattle.tk_lanes.proofs.Spans.{within_room}
use Rattle.tk_lanes.proofs.segment.span_of.Goals as goal

pub returns-clause-in_range : goal.returns-clause-in_range
returns-clause-in_range c =
    within_room c.min.result (c.args.room - 1) c.from.result c.args.mult (2 ^ c.args.shift)
    (omega (arith, c.min.ensures, c.from-2.ensures, ap (λ n. n * 2 ^ c.args.shift) c.from-2.ensures))
    (omega (arith, c.from.ensures, c.max.ensures))

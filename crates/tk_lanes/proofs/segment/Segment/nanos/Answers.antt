use Rattle.std.proofs.Common.{◌-◌, ◌*◌, ◌%◌, ◌^◌, ap, arith}
use Rattle.tk_lanes.proofs.Lanes.{near_nanos, far_nanos}
use Rattle.tk_lanes.proofs.segment.Segment.nanos.Goals as goal

pub returns-then-cycles : goal.returns-then-cycles
returns-then-cycles c =
    near_nanos c.args.self c.requires.fitting (omega arith) c.args.cycles c.requires.lanes
    c.requires.near c.from-mult.result c.from.result c.from-mult.ensures c.from.ensures
    c.if-cycles.true

pub returns : goal.returns
returns c =
    far_nanos c.args.self c.requires.fitting (omega arith) c.args.cycles c.requires.lanes
    c.requires.near c.from-mult.result c.from.result c.from-mult.ensures c.from.ensures _
    (ap (λ m. (m * 2 ^ (32 - c.args.self.shift)) % 2 ^ 64) c.from-mult.ensures)

use Rattle.std.proofs.Common.{ap}
use Rattle.std.specs.Simd.Lanes.{put_chunk}
use Rattle.tk_lanes.proofs.segment.Segment.write.Goals as goal

pub returns : goal.returns
returns c = ap (put_chunk c.args.at c.args.out.now) c.nanos.ensures

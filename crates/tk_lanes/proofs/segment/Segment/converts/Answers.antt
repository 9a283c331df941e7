use Rattle.std.proofs.Common.{ap, ◌∙◌, arith}
use Rattle.std.proofs.lemmas.Simd.{length-chunk}
use Rattle.std.specs.Simd.Lanes.{put_chunk}
use Rattle.tk_lanes.proofs.Lanes.{cycles-long, cycles-map, cycles-near, near_by_reaches, nanos_at_each}
use Rattle.tk_lanes.proofs.segment.Segment.converts.Goals as goal

pub write-requires-clause-near : goal.write-requires-clause-near
write-requires-clause-near c =
    let fitting = c.requires.fitting in
    let long = length-chunk c.args.at 8 c.args.stamps.now c.requires.inside in
    cycles-near c.args.self _ long
    (near_by_reaches c.args.self _ _ long fitting.half
    (omega (arith, fitting.leads, fitting.half)) c.if-stamp-self.false c.if-reach.false)

pub write-requires-clause-lanes : goal.write-requires-clause-lanes
write-requires-clause-lanes c =
    cycles-long c.args.self _ (length-chunk c.args.at 8 c.args.stamps.now c.requires.inside)

pub returns : goal.returns
returns c =
    let fitting = c.requires.fitting in
    let long = length-chunk c.args.at 8 c.args.stamps.now c.requires.inside in (
      near_by_reaches c.args.self _ _ long fitting.half
          (omega (arith, fitting.leads, fitting.half)) c.if-stamp-self.false c.if-reach.false,
      c.write.ensures
          ∙ ap (put_chunk c.args.at c.args.out.now)
          (nanos_at_each c.args.self _ _ (cycles-map c.args.self _ long)),
    )

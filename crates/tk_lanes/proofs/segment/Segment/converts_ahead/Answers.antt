use Rattle.std.proofs.Common.{ap, ◌∙◌, w64, ◌<◌, ◌^◌, arith}
use Rattle.std.proofs.lemmas.Simd.{length-chunk, chunk-fits, below_from_Fits}
use Rattle.std.specs.Simd.Lanes.{put_chunk}
use Rattle.tk_lanes.proofs.Lanes.{words-long, words-near, words-are_cycles, near_by_words, nanos_at_each}
use Rattle.tk_lanes.proofs.segment.Segment.converts_ahead.Goals as goal

pub write-requires-clause-near : goal.write-requires-clause-near
write-requires-clause-near c =
    let long = length-chunk c.args.at 8 c.args.stamps.now c.requires.inside in
    let fits = below_from_Fits w64 _ (chunk-fits w64 c.args.at 8 c.args.stamps.now c.type_inv.stamps) in
    words-near c.args.self c.requires.fitting (omega arith) _ long fits c.if-ahead-self.false

pub write-requires-clause-lanes : goal.write-requires-clause-lanes
write-requires-clause-lanes c =
    words-long c.args.self _ (length-chunk c.args.at 8 c.args.stamps.now c.requires.inside)

pub returns : goal.returns
returns c =
    let segment = c.args.self in
    let long = length-chunk c.args.at 8 c.args.stamps.now c.requires.inside in
    let fits = below_from_Fits w64 _ (chunk-fits w64 c.args.at 8 c.args.stamps.now c.type_inv.stamps) in
    let masked : segment.mask < 2 ^ 64 = omega arith in (
      near_by_words segment c.requires.fitting masked _ long fits c.if-ahead-self.false,
      c.write.ensures
          ∙ ap (put_chunk c.args.at c.args.out.now)
          (nanos_at_each segment _ _
          (words-are_cycles segment c.requires.fitting masked _ long fits c.if-ahead-self.false)),
    )

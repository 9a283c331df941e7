use Rattle.std.proofs.Common.{◌+◌, sym, subst, arith}
use Rattle.tk_lanes.specs.Batch.{IsFilled}
use Rattle.tk_lanes.proofs.Filled.{filled_joined, filled_lanes}
use Rattle.tk_lanes.proofs.segment.Segment.convert_ahead.Goals as goal

pub eights-preserved : goal.eights-preserved
eights-preserved c =
    let segment = c.args.self in
    let stamps = c.args.stamps.now in
    let first = c.args.first in
    let at = c.eights.at in
    let out = c.eights.out in
    let given = c.if-converts_ahead.ensures in
    record {
      order = omega (arith, c.eights.invariant.order);
      inside = omega (arith, c.eights-test.true, c.eights.invariant.inside);
      filled = λ base clock drawn.
          let lanes = filled_lanes base clock segment stamps at out c.type_inv.stamps (omega arith)
          (omega (arith, c.eights-test.true, c.eights.invariant.inside)) drawn given.0 in
          filled_joined base clock stamps first at (at + 8) c.args.out.now out
          c.converts_ahead.new.out c.eights.invariant.order (omega arith)
          (c.eights.invariant.filled base clock drawn)
          (subst (λ o. IsFilled base clock stamps at (at + 8) out o) (sym given.1) lanes);
    }

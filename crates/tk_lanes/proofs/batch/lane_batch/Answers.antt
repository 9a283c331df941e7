use Rattle.std.proofs.Common.{◌≡◌, ℕ, ◌+◌, ◌≤◌, refl, sym, subst, List, length, ◌∙◌, arith}
use Rattle.tk_lanes.specs.Batch.{IsFilled}
use Rattle.tk_lanes.specs.Segment.{IsSegment}
use Rattle.tk_lanes.proofs.Filled.{filled_joined, filled_lanes}
use Rattle.tk_lanes.proofs.batch.lane_batch.Goals as goal
use Rattle.tk_lanes.proofs.batch.lane_batch.Goals.{then-not-converts+in_ok-plain_from, else-not-converts}

pub eights-preserved : goal.eights-preserved
eights-preserved c =
    let base = c.args.snapshot.now.base in
    let clock = c.args.clock in
    let stamps = c.args.stamps.now in
    let old = c.args.out.now in
    let at = c.eights.at in
    let drawn : IsSegment base clock c.in-Some.segment = c.in-Some.ensures.drawn in
    let inside : at + 8 ≤ length stamps = omega (arith, c.eights-test.true, c.eights.invariant.inside) in
    let more : (mid new : List ℕ) → mid ≡ c.eights.out →
    IsFilled base clock stamps at (at + 8) mid new →
    IsFilled base clock stamps 0 (at + 8) old new =
    λ mid new same back.
    let front : IsFilled base clock stamps 0 at old mid =
    subst (λ m. IsFilled base clock stamps 0 at old m) (sym same) c.eights.invariant.filled in
    filled_joined base clock stamps 0 at (at + 8) old mid new (omega arith) (omega arith) front
    back in
    let eight : IsFilled base clock stamps 0 (at + 8) old c.if-not-converts.out =
    elim c.if-not-converts.branch [
      | then-not-converts+in_ok-plain_from w ↦
          subst (λ o. IsFilled base clock stamps 0 (at + 8) old o)
          (sym w.out-is)
          (more c.converts.new.out w.plain_from.new.out w.if-not-converts.ensures
          w.in_ok-plain_from.ensures)
      | else-not-converts w ↦
          let lanes = filled_lanes base clock c.in-Some.segment stamps at c.eights.out
          c.type_inv.stamps (omega arith) inside drawn w.if-not-converts.ensures.0 in
          let e = w.out-is ∙ w.if-not-converts.ensures.1 in
          more c.eights.out c.if-not-converts.out refl
          (subst (λ o. IsFilled base clock stamps at (at + 8) c.eights.out o) (sym e) lanes)
    ] in
    record {
      inside = c.convert_ahead-at.ensures.inside;
      filled = filled_joined base clock stamps 0 (at + 8) c.convert_ahead-at.result old
          c.if-not-converts.out c.convert_ahead-at.new.out (omega arith) c.convert_ahead-at.ensures.order
          eight (c.convert_ahead-at.ensures.filled base clock drawn);
    }

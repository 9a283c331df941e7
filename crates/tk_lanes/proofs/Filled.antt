-- The stamps that were converted so far, and some more stamps.
use Rattle.std.proofs.Common.{◌≡◌, ℕ, ◌+◌, ◌-◌, ◌<◌, ◌≤◌, List, map, length, get_or, Ok, sym, ap, ◌∙◌, subst, arith, inl, inr, Fits, w64}
use Rattle.std.proofs.lemmas.Bool.{cases_lt}
use Rattle.std.proofs.lemmas.List.{length-map, get_or-map}
use Rattle.std.proofs.lemmas.Simd.{length-chunk, get_or-chunk, get_or-put_chunk_below, get_or-put_chunk_at, get_or-put_chunk_above, Each1-get_or}
use Rattle.std.specs.Simd.Lanes.{chunk, put_chunk}
use Rattle.tk_clock.specs.declared.clock_id.ClockId.{ClockId}
use Rattle.tk_clock.specs.State.{ReadBase}
use Rattle.tk_lanes.specs.declared.segment.Segment.{Segment}
use Rattle.tk_lanes.specs.Batch.{IsFilled}
use Rattle.tk_lanes.specs.Segment.{segment_nanos, IsNear, IsEachNear, IsSegment}

pub filled_joined : (base : ReadBase) (clock : ClockId) (stamps : List ℕ) (first at end : ℕ)
    (old mid new : List ℕ) → first ≤ at → at ≤ end →
    IsFilled base clock stamps first at old mid → IsFilled base clock stamps at end mid new →
    IsFilled base clock stamps first end old new
filled_joined base clock stamps first at end old mid new low high front back = record {
  converted = λ k from to. elim (cases_lt k at) [
    | inl early ↦ front.converted k from early ∙ ap Ok (sym (back.before k early))
    | inr late ↦ back.converted k late to
  ];
  before = λ k early. back.before k (omega arith) ∙ front.before k early;
  after = λ k late. back.after k late ∙ front.after k (omega arith);
}

-- eight more lanes
pub filled_lanes : (base : ReadBase) (clock : ClockId) (segment : Segment) (stamps : List ℕ) (at : ℕ)
    (out : List ℕ) →
    ((k : ℕ) → Fits w64 (get_or stamps k 0)) → length stamps ≡ length out →
    at + 8 ≤ length stamps → IsSegment base clock segment → IsEachNear segment (chunk at 8 stamps) →
    IsFilled base clock stamps at (at + 8) out
    (put_chunk at out (map (segment_nanos segment) (chunk at 8 stamps)))
filled_lanes base clock segment stamps at out fits same inside drawn near =
    let v = chunk at 8 stamps in
    let ys = map (segment_nanos segment) v in
    let long : length v ≡ 8 = length-chunk at 8 stamps inside in
    let many : length ys ≡ 8 = length-map v (segment_nanos segment) ∙ long in
    record {
      converted = λ k from to.
          let j = k - at in
          let back : at + j ≡ k = omega arith in
          let low : j < 8 = omega arith in
          let stamp_is : get_or v j 0 ≡ get_or stamps k 0 = get_or-chunk at 8 stamps j 0 low
          ∙ ap (λ n. get_or stamps n 0) back in
          let near_here : IsNear segment (get_or stamps k 0) =
          subst (IsNear segment) stamp_is (Each1-get_or (IsNear segment) v j 0 (omega arith) near) in
          let new_is : get_or (put_chunk at out ys) k 0 ≡ segment_nanos segment (get_or stamps k 0) =
          ap (λ n. get_or (put_chunk at out ys) n 0) (sym back)
          ∙ get_or-put_chunk_at at out ys j 0 (omega arith) (omega arith)
          ∙ get_or-map (segment_nanos segment) v j 0 0 (omega arith)
          ∙ ap (segment_nanos segment) stamp_is in
          drawn (get_or stamps k 0) (fits k).fits near_here ∙ ap Ok (sym new_is);
      before = λ k early. get_or-put_chunk_below at out ys k 0 early;
      after = λ k late. get_or-put_chunk_above at out ys k 0 (omega arith);
    }

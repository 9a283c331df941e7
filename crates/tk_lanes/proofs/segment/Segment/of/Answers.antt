use Rattle.std.proofs.Common.{◌≡◌, ◌+◌, ◌-◌, ◌*◌, ◌^◌, sym, ◌∙◌, ap, subst, arith, rules}
use Rattle.std.specs.Prelude.{pos, ◌+ℤ◌}
use Rattle.tk_counter.specs.Counter.{Counter, IsCounter, mask, half}
use Rattle.tk_lanes.specs.declared.segment.Segment.{Segment}
use Rattle.tk_lanes.proofs.Drawn.{IsDrawn, drawn_reads, span_value, whole_gap}
use Rattle.tk_lanes.proofs.Spans.{gains_less}
use Rattle.tk_lanes.proofs.segment.Segment.of.Goals as goal

abbrev segment_of : goal.After-min → Segment
segment_of c = record {
  last = c.last-last.result;
  mult = c.origin-origin.result.mult;
  shift = c.shift-shift.result;
  frac = c.split-counts.result.1;
  base = c.split-counts.result.0 + c.origin-origin.result.offset;
  mask = c.mask-mask.result;
  half = c.half-2.result;
  span = c.span_of-span.result;
  ahead = c.min.result;
}

-- the counter's shift
shift_is : (c : goal.After-min) → c.shift-shift.result ≡ c.args.snapshot.now.base.counter.shift
shift_is c = c.shift-shift.ensures.value ∙ ap (λ (d : Counter). d.shift) c.desc-desc.ensures

drawn : (c : goal.After-min) → IsDrawn c.args.snapshot.now.base c.args.clock (segment_of c)
    c.split-counts.result.0 (c.origin-origin.result.limit - (segment_of c).base)
drawn c =
    let base = c.args.snapshot.now.base in
    let segment = segment_of c in
    let origin = c.origin-origin.result in
    let given = c.origin-origin.ensures in
    let counts = c.split-counts.result.0 in
    let same = c.desc-desc.ensures in
    let room = origin.limit - segment.base in
    let whole : segment.base + room ≡ origin.limit = omega arith in
    record {
      counter = subst IsCounter same c.shift-shift.ensures.counter;
      last = c.last-last.ensures;
      last_low = omega (arith, c.last-last.ensures);
      mult = given.slope;
      shift = shift_is c;
      units = sym given.units
          ∙ ap (λ k. origin.sec * (10 ^ 9 * 2 ^ k) + origin.frac) (sym (shift_is c))
          ∙ sym c.split-counts.ensures.value
          ∙ ap (λ k. counts * 2 ^ k + segment.frac) (shift_is c);
      start = ap (λ o. pos counts +ℤ o) given.start;
      masked = c.mask-mask.ensures.value ∙ ap mask same;
      halved = c.half-2.ensures ∙ ap half same;
      in_range = gains_less (segment.span * segment.mult) segment.frac room (2 ^ segment.shift)
          (omega arith) c.split-counts.ensures.low c.span_of-span.ensures.in_range;
      ends = ap pos whole ∙ given.ends;
    }

pub returns-clause-drawn : goal.returns-clause-drawn
returns-clause-drawn c =
    (λ stamp low near. drawn_reads c.args.snapshot.now.base c.args.clock (segment_of c)
    c.split-counts.result.0 (c.origin-origin.result.limit - (segment_of c).base) (drawn c) stamp
    near)

pub returns-clause-fitting : goal.returns-clause-fitting
returns-clause-fitting c =
    let segment = segment_of c in
    let base = c.args.snapshot.now.base in
    let room = c.origin-origin.result.limit - segment.base in
    let masked : c.mask-mask.result ≡ mask base.counter =
    c.mask-mask.ensures.value ∙ ap mask c.desc-desc.ensures in
    record {
      shift = omega (arith, c.shift-shift.ensures.value, c.shift-shift.ensures.counter.shift_high);
      frac = c.split-counts.ensures.low;
      half = search rules;
      leads = omega (arith, c.span_of-span.ensures.inside, c.half.ensures, c.half-2.ensures);
      value = span_value segment room (drawn c).in_range
          (omega (arith, c.origin-origin.ensures.ends_low));
      near = omega arith;
      read = omega (arith, c.in_ok-left.ensures);
      whole = λ gap low. whole_gap base.counter c.mask-mask.result gap masked low;
    }

use Rattle.std.proofs.Common.{◌≡◌, ℕ, ◌+◌, ◌-◌, ◌*◌, ◌/◌, ◌^◌, ◌<◌, ◌≤◌, sym, ap, ◌∙◌, arith}
use Rattle.std.specs.Prelude.{pos, ◌+ℤ◌, ◌*ℤ◌, ◌<ℤ◌, ◌↔◌}
use Rattle.tk_counter.specs.Counter.{Counter, mask, half, second}
use Rattle.tk_clock.specs.Limits.{limit}
use Rattle.tk_clock.specs.Origin.{units_at_last, value_after}
use Rattle.tk_clock.specs.Reach.{distance}
use Rattle.tk_line.specs.Line.{IsLine, line_units}
use Rattle.tk_line.specs.declared.line.Line.{Line}
use Rattle.tk_line.proofs.Values.{spans_room, spans_none, line_reads}
use Rattle.tk_line.proofs.line.line_of.Goals as goal
use Rattle.tk_line.proofs.line.line_of.Goals.{then-now-origin, else-now-origin}

abbrev line_of : goal.After-mask → Line
line_of c = record {
  last = c.last.result;
  mask = c.mask.result;
  span = c.if-now-origin.span;
  sec = c.begun-sec.result.0;
  frac = c.begun-sec.result.1;
  mult = c.origin-origin.result.mult;
  shift = c.shift-shift.result;
}

shift_is : (c : goal.After-mask) → c.shift-shift.result ≡ c.args.snapshot.now.base.counter.shift
shift_is c = c.shift-shift.ensures.value ∙ ap (λ (d : Counter). d.shift) c.desc-desc.ensures

-- the whole time at the last reading, in units
begun_is : (c : goal.After-mask) →
    (line_of c).sec * second c.args.snapshot.now.base.counter + (line_of c).frac
    ≡ units_at_last c.args.snapshot.now.base c.args.clock
    + c.origin-origin.result.offset * 2 ^ c.args.snapshot.now.base.counter.shift
begun_is c =
    let line = line_of c in
    let origin = c.origin-origin.result in
    let same : line.sec * (10 ^ 9 * 2 ^ c.args.snapshot.now.base.counter.shift) + line.frac
    ≡ origin.sec * (10 ^ 9 * 2 ^ c.args.snapshot.now.base.counter.shift) + origin.frac
    + origin.offset * 2 ^ c.args.snapshot.now.base.counter.shift =
    ap (λ k. line.sec * (10 ^ 9 * 2 ^ k) + line.frac) (sym (shift_is c))
    ∙ c.begun-sec.ensures.value
    ∙ ap (λ k. origin.sec * (10 ^ 9 * 2 ^ k) + origin.frac + origin.offset * 2 ^ k) (shift_is c) in
    same
    ∙ ap (λ n. n + origin.offset * 2 ^ c.args.snapshot.now.base.counter.shift)
    c.origin-origin.ensures.units

half_is : (c : goal.After-mask) → half c.desc-desc.result ≡ half c.args.snapshot.now.base.counter
half_is c = ap half c.desc-desc.ensures

-- the line, from its span
made : (c : goal.After-mask) → (line_of c).span ≤ half c.args.snapshot.now.base.counter + 1 →
    ((cycles : ℕ) → cycles ≤ half c.args.snapshot.now.base.counter →
    (cycles < (line_of c).span)
    ↔ ((line_units (line_of c) cycles < 2 ^ 64)
    × (value_after c.args.snapshot.now.base c.args.clock cycles <ℤ limit c.args.clock))) →
    IsLine c.args.snapshot.now.base c.args.clock (line_of c)
made c high spans =
    let base = c.args.snapshot.now.base in
    let line = line_of c in
    let offset = c.origin-origin.result.offset in
    let begun = begun_is c in
    record {
      last = c.last.ensures;
      greatest = c.mask.ensures.value ∙ ap mask c.desc-desc.ensures;
      mult = c.origin-origin.ensures.slope;
      shift = shift_is c;
      start = ap pos begun
          ∙ ap (λ z. pos (units_at_last base c.args.clock) +ℤ z *ℤ pos (2 ^ base.counter.shift))
          c.origin-origin.ensures.start;
      frac_low = omega (
        arith,
        c.begun-sec.ensures.low,
        ap (λ k. 10 ^ 9 * 2 ^ k) (shift_is c),
      );
      span_high = high;
      spans = spans;
      reads = λ reading read near.
          let ahead : distance c.args.snapshot.now.base reading
          ≤ half c.args.snapshot.now.base.counter = omega (arith, near, high) in
          line_reads base c.args.clock line offset c.origin-origin.result.limit
          c.origin-origin.ensures.slope (shift_is c) c.origin-origin.ensures.start
          c.origin-origin.ensures.ends begun reading read ahead
          ((spans _ ahead).0 near).1;
    }

pub returns : goal.returns
returns c =
    let base = c.args.snapshot.now.base in
    let line = line_of c in
    let offset = c.origin-origin.result.offset in
    let most = c.origin-origin.result.limit in
    let given = c.origin-origin.ensures in
    elim c.if-now-origin.branch [
      | then-now-origin w ↦
          made c
          (omega (
            arith,
            w.span-is,
            w.span_of-span.ensures.high,
            w.half.ensures,
            half_is c,
          ))
          (spans_room base c.args.clock line offset most given.slope (shift_is c) given.start
          given.ends (begun_is c) w.room_of.result
          (most - (line.sec * 1000000000 + line.frac / 2 ^ line.shift))
          (omega (arith, w.if-now-origin.true)) w.room_of.ensures
          (λ cycles near.
          let counted = w.span_of-span.ensures.value cycles
          (omega (arith, near, w.half.ensures, half_is c)) in (
            (λ inside. counted.0 (omega (arith, inside, w.span-is))),
            (λ within. omega (arith, counted.1 within, w.span-is)),
          )))
      | else-now-origin w ↦
          made c (omega (arith, w.span-is))
          (spans_none base c.args.clock line offset most given.slope (shift_is c) given.start
          given.ends (begun_is c) w.span-is w.if-now-origin.false)
    ]

use Rattle.std.proofs.Common.{arith, inl, inr, refl, ◌∙◌, suc, ◌-◌, ◌+◌, ◌≡◌, ◌≤◌, ◌<◌}
use Rattle.tk_counter.specs.Frequency.{rounded_mult}
use Rattle.tk_counter.proofs.Frequency.{from_top, found, passed, last_fits, ample, converts}
use Rattle.tk_counter.proofs.counter.frequency.chosen_shift.Goals as goal

pub loop-shift-init : goal.loop-shift-init
loop-shift-init c = record {
  rest = from_top c.args.unit_ns c.args.rate c.args.span;
  above = inl refl;
  least = omega arith;
}

pub loop-shift-preserved : goal.loop-shift-preserved
loop-shift-preserved c =
    let next : c.loop-shift.shift - 1 ≡ suc (c.loop-shift.shift - 1 - 1) = omega arith in
    let long : c.mult_limit-limit.result ≤ rounded_mult c.args.unit_ns c.args.rate (c.loop-shift.shift - 1) =
    omega arith in
    record {
      rest = c.loop-shift.invariant.rest
          ∙ passed c.args.unit_ns c.args.rate c.args.span _ _ next (rw c.mult_limit-limit.ensures at long);
      above = inr long;
      least = omega arith;
    }

pub returns-then-rounded_mult-limit-clause-value : goal.returns-then-rounded_mult-limit-clause-value
returns-then-rounded_mult-limit-clause-value c =
    let short : rounded_mult c.args.unit_ns c.args.rate (c.loop-shift.shift - 1) < c.mult_limit-limit.result =
    omega arith in
    c.loop-shift.invariant.rest
    ∙ found c.args.unit_ns c.args.rate c.args.span _ (omega arith) (rw c.mult_limit-limit.ensures at short)

pub returns-then-rounded_mult-limit-clause-ample : goal.returns-then-rounded_mult-limit-clause-ample
returns-then-rounded_mult-limit-clause-ample c =
    let next : c.loop-shift.shift ≡ c.loop-shift.shift - 1 + 1 = omega arith in
    ample c.args.unit_ns c.args.rate c.args.span _ _ next c.requires.long_unit c.requires.runs c.ranges.rate.fits c.requires.lasts
    c.requires.short (rw c.mult_limit-limit.ensures at c.loop-shift.invariant.above)

pub returns-clause-value : goal.returns-clause-value
returns-clause-value c =
    let last : c.loop-shift.shift - 1 ≡ 1 = omega arith in
    let short = last_fits c.args.unit_ns c.args.rate c.args.span c.requires.short_unit c.requires.runs c.ranges.rate.fits c.requires.lasts
    c.requires.short in
    rw last at c.loop-shift.invariant.rest ∙ found c.args.unit_ns c.args.rate c.args.span 1 (omega arith) short

pub returns-clause-ample : goal.returns-clause-ample
returns-clause-ample c =
    let next : c.loop-shift.shift ≡ 1 + 1 = omega arith in
    ample c.args.unit_ns c.args.rate c.args.span 1 _ next c.requires.long_unit c.requires.runs c.ranges.rate.fits c.requires.lasts
    c.requires.short (rw c.mult_limit-limit.ensures at c.loop-shift.invariant.above)

pub returns-then-rounded_mult-limit-clause-converts : goal.returns-then-rounded_mult-limit-clause-converts
returns-then-rounded_mult-limit-clause-converts c =
    let short : rounded_mult c.args.unit_ns c.args.rate (c.loop-shift.shift - 1) < c.mult_limit-limit.result =
    omega arith in
    converts c.args.rate c.args.span _ c.ranges.rate.fits c.requires.short
    (rw c.mult_limit-limit.ensures at short)

pub returns-clause-converts : goal.returns-clause-converts
returns-clause-converts c =
    let short = last_fits c.args.unit_ns c.args.rate c.args.span c.requires.short_unit c.requires.runs c.ranges.rate.fits c.requires.lasts
    c.requires.short in
    converts c.args.rate c.args.span _ c.ranges.rate.fits c.requires.short short

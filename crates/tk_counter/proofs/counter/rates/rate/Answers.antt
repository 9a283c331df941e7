use Rattle.std.proofs.Common.{◌≡◌, ◌∙◌, ap, arith, pos, ◌+ℤ◌, ◌*ℤ◌, unsigned_abs, w64}
use Rattle.std.proofs.lemmas.Int.{ints, to_z-of_z}
use Rattle.tk_counter.specs.Counter.{clamped}
use mir.Val.{to_z, of_z}
use Rattle.tk_counter.proofs.counter.rates.rate.Goals as goal

pub returns-clause-value : goal.returns-clause-value
returns-clause-value c =
    let tick = to_z-of_z w64 c.args.tick c.ranges.tick in
    let freq = to_z-of_z w64 c.args.freq c.ranges.freq in
    let slow : c.rate_of_tick.result ≡ c.args.tick *ℤ pos 6553600 =
    rw tick at c.rate_of_tick.ensures.value in
    let near : c.clamp.result ≡ clamped c.args.freq = rw freq at c.clamp.ensures.value in
    let sum : to_z w64
    (of_z w64 (to_z w64 (of_z w64 c.rate_of_tick.result) +ℤ to_z w64 (of_z w64 c.clamp.result)))
    ≡ c.rate_of_tick.result +ℤ c.clamp.result =
    omega (arith, ints, c.rate_of_tick.ensures.most, c.clamp.ensures.lower_bound) in
    ap unsigned_abs (sum ∙ ap (λ z. z +ℤ c.clamp.result) slow
    ∙ ap (λ z. c.args.tick *ℤ pos 6553600 +ℤ z) near)

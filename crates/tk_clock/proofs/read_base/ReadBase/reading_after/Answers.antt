use Rattle.std.proofs.Common.{◌+◌, ◌-◌, ◌%◌, ◌^◌, bit_and, ap, ◌∙◌, arith}
use Rattle.std.proofs.lemmas.Nat.{pow_pos}
use Rattle.tk_clock.proofs.Reaching.{masked_sum, sum_gap}
use Rattle.tk_clock.proofs.read_base.ReadBase.reading_after.Goals as goal

pub returns-clause-distance : goal.returns-clause-distance
returns-clause-distance c =
    let base = c.self.inside in
    let cycles = c.args.cycles in
    let d = 2 ^ base.desc.bits in
    let word = (base.last + cycles) % 18446744073709551616 in
    let near = rw (← c.self.view_is) at c.requires in
    rw (← c.self.view_is) (
    ap (λ m. (bit_and word m + (d - base.last % d)) % d) c.mask.ensures.value
    ∙ ap (λ n. (n + (d - base.last % d)) % d)
    (masked_sum base.desc.bits base.last cycles c.self.invariant.described.bits_high)
    ∙ sum_gap d base.last cycles (pow_pos base.desc.bits)
    (omega (arith, near, pow_pos base.desc.bits)))

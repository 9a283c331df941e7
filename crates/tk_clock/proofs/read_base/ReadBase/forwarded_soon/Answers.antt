use Rattle.std.proofs.Common.{◌*◌, ap, arith, inl, inr}
use Rattle.std.proofs.lemmas.Nat.{mod-mul-add}
use Rattle.tk_counter.specs.Counter.{gap, second}
use Rattle.tk_clock.specs.Amount.{units_of}
use Rattle.tk_clock.specs.Running.{IsTwoSeconds}
use Rattle.tk_clock.proofs.read_base.ReadBase.forwarded_soon.Goals as goal

pub returns-in_err-monotonic : goal.returns-in_err-monotonic
returns-in_err-monotonic c =
    let base = c.self.inside in
    let amount = base.monotonic in
    let cycles = ap (λ k. k * base.mult) c.gap-cycles.ensures.value in
    let below = mod-mul-add amount.sec (second base.desc) amount.frac c.self.invariant.frac_low in
    let full : IsTwoSeconds base.desc (units_of base.desc amount)
    (gap base.desc base.last c.args.reading) base.mult =
    omega (arith, below, cycles, c.in_err-monotonic.ensures) in
    rw (← c.self.view_is, c.from_residual.ensures) (inr (inl full))

pub returns-in_err-raw : goal.returns-in_err-raw
returns-in_err-raw c =
    let base = c.self.inside in
    let amount = base.raw in
    let cycles = ap (λ k. k * base.desc.mult) c.gap-cycles.ensures.value in
    let mult = ap (λ m. c.gap-cycles.result * m) c.mult.ensures.value in
    let below = mod-mul-add amount.sec (second base.desc) amount.frac
    c.self.invariant.raw_frac_low in
    let full : IsTwoSeconds base.desc (units_of base.desc amount)
    (gap base.desc base.last c.args.reading) base.desc.mult =
    omega (arith, below, cycles, mult, c.in_err-raw.ensures) in
    rw (← c.self.view_is, c.from_residual-in_err-raw.ensures) (inr (inr (inl full)))

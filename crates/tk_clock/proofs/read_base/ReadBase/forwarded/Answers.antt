use Rattle.std.proofs.Common.{◌+◌, ◌*◌, ◌≤◌, ap, arith, inl, inr}
use Rattle.std.proofs.lemmas.Bool.{cases_lt}
use Rattle.tk_counter.specs.Counter.{gap, second}
use Rattle.tk_clock.specs.Amount.{units_of}
use Rattle.tk_clock.specs.State.{forwarded}
use Rattle.tk_clock.specs.Limits.{monotonic_end}
use Rattle.tk_clock.specs.contracts.read_base.ReadBase.{the_view}
use Rattle.tk_clock.proofs.Units.{end_nanos}
use Rattle.tk_clock.proofs.Rates.{IsRated-forwarded, raw_low}
use Rattle.tk_clock.proofs.read_base.ReadBase.forwarded.Goals as goal

pub returns-in_err-monotonic : goal.returns-in_err-monotonic
returns-in_err-monotonic c =
    let base = c.self.inside in
    let same = ap (λ k. units_of base.desc base.monotonic + k * base.mult)
    c.gap-cycles.ensures.value in
    let far : monotonic_end * second base.desc
    ≤ units_of base.desc base.monotonic + gap base.desc base.last c.args.reading * base.mult =
    omega (arith, same, c.in_err-monotonic.ensures) in
    rw (← c.self.view_is, c.from_residual.ensures) (end_nanos monotonic_end _ base.desc.shift far)

-- MONOTONIC_RAW is below its limit unless MONOTONIC is at its own
pub returns-in_err-raw : goal.returns-in_err-raw
returns-in_err-raw c =
    let base = c.self.inside in
    let before = the_view base in
    let after = forwarded before c.args.reading in
    let steered = rw (← c.self.view_is) at c.requires.steered in
    let rated = rw (← c.self.view_is) at c.requires.rated in
    let mult = ap (λ m. units_of base.desc base.raw + c.gap-cycles.result * m) c.mult.ensures.value
    in
    let cycles = ap (λ k. units_of base.desc base.raw + k * base.desc.mult)
    c.gap-cycles.ensures.value in
    elim (cases_lt after.amount (monotonic_end * second base.desc)) [
      | inl low ↦
          let below = raw_low after c.self.invariant.described
          (IsRated-forwarded before c.args.reading steered rated) low in
          absurd (omega (arith, below, mult, cycles, c.in_err-raw.ensures))
      | inr far ↦ rw (← c.self.view_is, c.from_residual-in_err-raw.ensures)
          (end_nanos monotonic_end _ base.desc.shift far)
    ]

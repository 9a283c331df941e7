use Rattle.std.proofs.Common.{◌≡◌, ◌+◌, ◌-◌, ◌*◌, ◌%◌, ◌^◌, ◌<◌, ◌≤◌, ap, ◌∙◌, arith}
use Rattle.std.proofs.lemmas.Nat.{shl_whole}
use Rattle.tk_counter.specs.Counter.{second}
use Rattle.tk_clock.specs.Amount.{units_of}
use Rattle.tk_clock.specs.State.{ReadBase}
use Rattle.tk_clock.specs.Origin.{units_at_last}
use Rattle.tk_clock.proofs.Reaching.{enough_units, needed_units}
use Rattle.tk_clock.proofs.read_base.ReadBase.units_until.Goals as goal

-- the units that the clock has counted
counted : (c : goal.After-saturating_sub) →
    c.units.result ≡ units_at_last c.args.self.now c.args.clock
counted c =
    let origin = c.origin-origin.result in
    c.units.ensures.value
    ∙ ap (units_of c.self.inside.desc) c.amount.ensures
    ∙ ap (λ (b : ReadBase). origin.sec * second b.counter + origin.frac) c.self.view_is
    ∙ c.origin-origin.ensures.units

-- the result, in the numbers of the base
missing : (c : goal.After-saturating_sub) →
    c.saturating_sub.result
    ≡ (c.nanos_from_zero.result - c.origin-origin.result.offset)
    * 2 ^ c.args.self.now.counter.shift
    - units_at_last c.args.self.now c.args.clock
missing c =
    let nanos = c.saturating_sub-nanos.result in
    let from = c.nanos_from_zero.result - c.origin-origin.result.offset in
    let units = c.units.result in
    let shift = c.shift.ensures.value ∙ ap (λ (b : ReadBase). b.counter.shift) c.self.view_is in
    let left : nanos ≡ from =
    c.saturating_sub-nanos.ensures ∙ ap (λ o. c.nanos_from_zero.result - o) c.from.ensures in
    let few : nanos < 2 ^ 94 = omega (arith, left, c.nanos_from_zero.ensures.low) in
    let narrow : 94 + c.shift.result ≤ 128 =
    omega (arith, c.shift.ensures.value, c.shift.ensures.counter.shift_high) in
    let whole : nanos * 2 ^ c.shift.result % 340282366920938463463374607431768211456
    ≡ nanos * 2 ^ c.shift.result = shl_whole nanos 94 c.shift.result 128 few narrow in
    c.saturating_sub.ensures
    ∙ ap (λ n. n - units) (whole ∙ ap (λ n. n * 2 ^ c.shift.result) left
    ∙ ap (λ s. from * 2 ^ s) shift)
    ∙ ap (λ u. from * 2 ^ c.args.self.now.counter.shift - u) (counted c)

pub returns-clause-enough : goal.returns-clause-enough
returns-clause-enough c =
    λ cycles many.
    enough_units _ _ (units_at_last c.args.self.now c.args.clock) _ _ c.args.self.now.counter.shift _ _
    c.nanos_from_zero.ensures.value c.origin-origin.ensures.start (missing c) many

pub returns-clause-needed : goal.returns-clause-needed
returns-clause-needed c =
    λ cycles few.
    needed_units _ _ (units_at_last c.args.self.now c.args.clock) _ _ c.args.self.now.counter.shift _ _
    c.nanos_from_zero.ensures.value c.origin-origin.ensures.start (missing c) few

use Rattle.std.proofs.Common.{◌+◌, ◌*◌, ◌∙◌, ap}
use Rattle.tk_counter.specs.Counter.{second}
use Rattle.tk_clock.specs.ChangeCounter.{rescaled}
use Rattle.tk_clock.proofs.Rescaling.{rescaled-parts}
use Rattle.tk_clock.proofs.amount.Amount.rescaled.Goals as goal

pub returns-clause-units : goal.returns-clause-units
returns-clause-units c =
    let amount = c.args.self in
    let from = c.args.from.now in
    let to = c.args.to.now in
    ap (λ n. amount.sec * second to + n)
    (c.rescaled_units.ensures.value
    ∙ ap (λ s. rescaled s c.shift-2.result amount.frac) c.shift.ensures.value
    ∙ ap (λ s. rescaled from.shift s amount.frac) c.shift-2.ensures.value)
    ∙ rescaled-parts from.shift to.shift amount.sec amount.frac

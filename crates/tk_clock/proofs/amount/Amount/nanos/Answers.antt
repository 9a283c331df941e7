use Rattle.std.proofs.Common.{◌+◌, ◌*◌, ◌/◌, ◌^◌, ◌∙◌, ap}
use Rattle.tk_clock.proofs.Units.{nanos-parts}
use Rattle.tk_clock.proofs.amount.Amount.nanos.Goals as goal

pub returns : goal.returns
returns c =
    let amount = c.args.self in
    ap (λ s. amount.sec * 1000000000 + amount.frac / 2 ^ s) c.shift.ensures.value
    ∙ nanos-parts amount.sec amount.frac c.args.desc.now.shift

use Rattle.std.proofs.Common.{◌≡◌, ◌∙◌, arith, to_z, of_z}
use Rattle.std.proofs.lemmas.Int.{fits_signed_from_abs, to_z-of_z}
use Rattle.std.specs.Int.{w128}
use Rattle.tk_ntp.proofs.lag.Lag.carry_over.Goals as goal

pub returns : goal.returns
returns c =
    let held : to_z w128 (of_z w128 c.within-lag.result) ≡ c.within-lag.result =
    to_z-of_z w128 c.within-lag.result
    (fits_signed_from_abs w128 c.within-lag.result (omega (arith, c.within-lag.ensures.low))) in
    let lag = rw (held, c.within-lag.ensures.value, c.shift.ensures.value, c.shift-2.ensures.value) at c.rescaled_lag.ensures.value in
    c.of_amount.ensures
    ∙ to_z-of_z w128 c.rescaled_lag.result
    (fits_signed_from_abs w128 c.rescaled_lag.result (omega (arith, c.rescaled_lag.ensures.most)))
    ∙ lag

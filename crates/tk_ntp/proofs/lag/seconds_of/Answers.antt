use Rattle.std.proofs.Common.{◌∙◌, ap, ◌/◌, ◌^◌, min}
use Rattle.std.proofs.Math.Nat.{div-div-eq-div-mul, mul_comm}
use Rattle.tk_ntp.proofs.lag.seconds_of.Goals as goal

pub returns : goal.returns
returns c =
    let amount = c.args.amount in
    let unit = 2 ^ c.args.shift in
    record {
      value =
          c.billions_of.ensures
          ∙ ap (λ n. min n (2 ^ 60))
          (div-div-eq-div-mul amount unit (10 ^ 9)
          ∙ ap (λ d. amount / d) (mul_comm unit (10 ^ 9)));
    }

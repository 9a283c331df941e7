use Rattle.std.proofs.Common.{arith}
use Rattle.tk_ntp.proofs.Restored.{lag_within}
use Rattle.tk_ntp.proofs.lag.Lag.of_words.Goals as goal

pub invariant_of-result : goal.invariant_of-result
invariant_of-result c =
    lag_within (record { high = c.args.high; low = c.args.low }) c.requires
    (omega (arith, c.ranges.low))

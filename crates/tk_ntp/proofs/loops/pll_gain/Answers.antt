use Rattle.std.proofs.Common.{◌≤◌, ◌*◌, ◌^◌, ◌-◌, arith}
use Rattle.std.proofs.Math.Nat.{mod-le}
use Rattle.tk_ntp.proofs.Gains.{gain_most}
use Rattle.tk_ntp.proofs.loops.pll_gain.Goals as goal

pub returns-clause-most : goal.returns-clause-most
returns-clause-most c =
    let held = c.min.ensures in
    let few : c.min.result ≤ 8 * 2 ^ c.args.constant = omega (arith, mod-le (8 * 2 ^ c.args.constant) 18446744073709551616) in
    omega (
      arith,
      gain_most c.min.result c.args.constant c.requires few,
      mod-le (c.min.result * 2 ^ (24 - 2 * c.args.constant)) 18446744073709551616,
    )

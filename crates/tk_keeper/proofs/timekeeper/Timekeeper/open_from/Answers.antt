use Rattle.std.proofs.Common.{◌≤◌, arith}
use Rattle.tk_clock.specs.Legal.{AtClocks}
use Rattle.tk_clock.specs.Limits.{counted_most}
use Rattle.tk_keeper.proofs.timekeeper.Timekeeper.open_from.Goals as goal

pub begun-requires-clause-starts : goal.begun-requires-clause-starts
begun-requires-clause-starts g c = λ clocks.
    let few : c.args.front ≤ counted_most = omega (arith, c.if-front-gt-COUNTED_LIMIT.false) in
    AtClocks c.args.front c.args.clock few clocks

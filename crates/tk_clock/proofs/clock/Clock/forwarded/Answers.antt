use Rattle.std.proofs.Common.{ap}
use Rattle.tk_clock.specs.State.{State}
use Rattle.tk_clock.proofs.Effects.{past_effect}
use Rattle.tk_clock.proofs.clock.Clock.forwarded.Goals as goal

pub returns-in_default : goal.returns-in_default
returns-in_default c =
    let far = rw (ap (λ (s : State). s.base) c.self.view_is) at c.in_default.ensures in
    past_effect c.args.self.now c.args.reading c.args.cmd c.requires.awake far

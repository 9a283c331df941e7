use Rattle.std.proofs.Common.{◌≡◌, subst}
use Rattle.tk_ntp.specs.Course.{seen}
use Rattle.tk_ntp.specs.Pulsed.{with_lost}
use Rattle.tk_ntp.specs.SteeredClock.{SteeredClock}
use Rattle.tk_ntp.proofs.steered_clock.SteeredClock.lose_signal.Goals as goal

pub returns : goal.returns
returns c =
    subst (λ (s : SteeredClock).
    seen c.self.inside.clock c.lose_signal.new.self ≡ with_lost s) c.self.view_is
    (c.lose_signal.ensures c.self.inside.clock)

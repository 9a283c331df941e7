use Rattle.std.proofs.Common.{◌≡◌, ◌∙◌, ap, subst}
use Rattle.std.specs.Prelude.{Ok}
use Rattle.tk_ntp.specs.Numbers.{steered_numbers}
use Rattle.tk_ntp.specs.Restored.{steered_from}
use Rattle.tk_ntp.specs.SteeredClock.{SteeredClock}
use Rattle.tk_ntp.proofs.steered_clock.SteeredClock.numbers.Goals as goal

pub returns-clause-value : goal.returns-clause-value
returns-clause-value c =
    c.numbers.ensures.value ∙ ap steered_numbers c.self.view_is

pub returns-clause-back : goal.returns-clause-back
returns-clause-back c =
    subst (λ (s : SteeredClock). steered_from s.clock (steered_numbers s) ≡ Ok s) c.self.view_is
    (c.numbers.ensures.back c.self.inside.clock)

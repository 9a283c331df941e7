use Rattle.std.proofs.Common.{sym, ap}
use Rattle.tk_clock.specs.State.{State}
use Rattle.tk_clock.proofs.Testing.{accepted, refused}
use Rattle.tk_clock.proofs.clock.Clock.test_update.Goals as goal

pub returns-then-is_past_limit_at : goal.returns-then-is_past_limit_at
returns-then-is_past_limit_at c =
    let past =
    rw (ap (λ (s : State). s.base) c.self.view_is) at (sym c.if-is_past_limit_at.ensures) in
    refused c.args.self.now c.args.reading c.in_ok-check.ensures past

pub returns : goal.returns
returns c =
    let low =
    rw (ap (λ (s : State). s.base) c.self.view_is) at (sym c.if-is_past_limit_at.ensures) in
    accepted c.args.self.now c.args.reading c.in_ok-check.ensures low

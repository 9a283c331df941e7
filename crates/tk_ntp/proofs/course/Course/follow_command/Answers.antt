use Rattle.std.proofs.Common.{◌∙◌, ap, subst, sym}
use Rattle.tk_clock.specs.State.{State, effect}
use Rattle.tk_ntp.specs.Course.{seen}
use Rattle.tk_ntp.specs.Followed.{IsOwedAt}
use Rattle.tk_ntp.specs.SteeredClock.{SteeredClock}
use Rattle.tk_ntp.proofs.Followed.{followed_owed}
use Rattle.tk_ntp.proofs.course.Course.follow_command.Goals as goal

pub returns-clause-sum : goal.returns-clause-sum
returns-clause-sum c = λ plain order.
    let reading = c.args.reading in
    let cmd = c.args.cmd in
    let before = seen c.args.clock.now c.args.self.now in
    subst (IsOwedAt reading before)
    (sym (ap (λ (k : State). seen k c.account.new.self) c.in_ok-apply.ensures.1
    ∙ ap (λ (n : SteeredClock). record n { clock = effect before.clock reading cmd })
    c.account.ensures))
    (followed_owed reading cmd before plain order)

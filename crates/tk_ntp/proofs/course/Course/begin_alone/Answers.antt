use Rattle.std.proofs.Common.{subst, sym}
use Rattle.tk_ntp.specs.Course.{seen}
use Rattle.tk_ntp.specs.Followed.{IsOwedAt}
use Rattle.tk_ntp.specs.SteeredClock.{SteeredClock}
use Rattle.tk_ntp.proofs.Followed.{begun_owed}
use Rattle.tk_ntp.proofs.course.Course.begin_alone.Goals as goal

pub returns-clause-sum : goal.returns-clause-sum
returns-clause-sum c = λ consistent.
    let before = seen c.args.clock.now c.args.self.now in
    let first = c.in-Some.ensures.answer.first in
    subst (λ (n : SteeredClock). IsOwedAt n.last_account before n) (sym c.begin_next.ensures.seen)
    (begun_owed c.in-Some.at before (consistent.nearer c.in-Some.at first.ahead first.reached))

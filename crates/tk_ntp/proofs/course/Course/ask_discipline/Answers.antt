use Rattle.std.proofs.Common.{◌∙◌, ap}
use Rattle.tk_ntp.specs.Asked.{with_asked}
use Rattle.tk_ntp.specs.Course.{Course, seen}
use Rattle.tk_ntp.specs.Reply.{reply_to}
use Rattle.tk_ntp.specs.SteeredClock.{SteeredClock}
use Rattle.tk_ntp.specs.Steering.{Steered}
use Rattle.tk_ntp.proofs.course.Course.ask_discipline.Goals as goal

pub returns-clause-state : goal.returns-clause-state
returns-clause-state c = λ clock.
    let steered_by : Steered → SteeredClock = λ steering. record {
      clock = clock;
      steering = steering;
      next = c.self.inside.next;
      last_account = c.self.inside.last_account;
    } in
    ap steered_by c.adjtimex.ensures.state
    ∙ ap (λ (a : Course). with_asked c.args.request.now c.args.real (seen clock a)) c.self.view_is

pub returns-clause-reply : goal.returns-clause-reply
returns-clause-reply c =
    c.adjtimex.ensures.reply
    ∙ ap (λ (a : Course). reply_to c.args.request.now c.args.real c.args.tai a.steering.ntp)
    c.self.view_is

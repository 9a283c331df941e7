use Rattle.std.proofs.Common.{◌∙◌, ap, unsigned_abs}
use Rattle.tk_ntp.specs.Ntp.{Ntp}
use Rattle.tk_ntp.specs.Modes.{asked}
use Rattle.tk_ntp.specs.Reply.{reply_to}
use Rattle.tk_ntp.specs.Steering.{Steered}
use Rattle.tk_ntp.proofs.steering.Steering.adjtimex.Goals as goal

pub returns-then-request-ne0-clause-state : goal.returns-then-request-ne0-clause-state
returns-then-request-ne0-clause-state c =
    let request = c.args.request.now in
    let now = unsigned_abs c.args.real.sec in
    let with_ntp : Ntp → Steered = λ ntp. record { ntp = ntp; lag = c.self.inside.lag } in
    let asked_of : Steered → Steered = λ s. record { ntp = asked request now s.ntp; lag = s.lag } in
    ap with_ntp c.adjtimex-reply.ensures.state ∙ ap asked_of c.self.view_is

pub returns-then-request-ne0-clause-reply : goal.returns-then-request-ne0-clause-reply
returns-then-request-ne0-clause-reply c =
    c.adjtimex-reply.ensures.reply
    ∙ ap (λ (s : Steered). reply_to c.args.request.now c.args.real c.args.tai s.ntp) c.self.view_is

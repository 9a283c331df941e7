use Rattle.std.proofs.Common.{◌≡◌, ◌∙◌, ap, subst, ℕ}
use Rattle.std.specs.Prelude.{None}
use Rattle.tk_ntp.specs.Asked.{real_at, real_refusal, with_asked}
use Rattle.tk_ntp.specs.Course.{seen}
use Rattle.tk_ntp.specs.Reply.{reply_to}
use Rattle.tk_ntp.proofs.course.Course.ask_alone.Goals as goal

pub returns : goal.returns
returns c =
    let request = c.args.request.now in
    let clock = c.args.clock.now in
    let s = seen clock c.args.self.now in
    let real : c.in_ok-real.real ≡ real_at s.last_account clock =
    c.in_ok-real.ensures.1 ∙ ap (λ (at : ℕ). real_at at clock) c.last_account.ensures in (
      subst (λ (at : ℕ). real_refusal at clock ≡ None) c.last_account.ensures c.in_ok-real.ensures.0,
      c.ask_discipline.ensures.reply
          ∙ ap (λ time. reply_to request time c.tai_of-tai.result s.steering.ntp) real
          ∙ ap (λ tai. reply_to request (real_at s.last_account clock) tai s.steering.ntp)
          c.tai_of-tai.ensures,
      c.ask_discipline.ensures.state clock ∙ ap (λ time. with_asked request time s) real,
    )

use Rattle.std.proofs.Common.{◌≡◌, ◌∙◌, ap, refl, subst}
use Rattle.std.specs.Prelude.{Option, None}
use Rattle.tk_clock.specs.declared.refusal.Refusal.{Refusal}
use Rattle.tk_clock.specs.declared.timespec.Timespec.{Timespec}
use Rattle.tk_clock.specs.Refusal.{first_of}
use Rattle.tk_clock.specs.State.{State}
use Rattle.tk_ntp.specs.Advance.{tai_of_clock}
use Rattle.tk_ntp.specs.Asked.{accounted_if, acts, after_request, changes_rate, given_tai, real_at, real_refusal, tai_asked, tai_refusal, with_asked}
use Rattle.tk_ntp.specs.Course.{seen}
use Rattle.tk_ntp.specs.Entries.{rate_entries_if, tai_entries}
use Rattle.tk_ntp.specs.Modes.{asked_tai}
use Rattle.tk_ntp.specs.Reply.{reply_to}
use Rattle.tk_ntp.proofs.course.Course.request.Goals as goal

no_refusal : (first second : Option Refusal) → first ≡ None → second ≡ None →
    first_of first second ≡ None
no_refusal first second is is' = rw (is, is') refl

pub returns : goal.returns
returns g c =
    let kept = g.C.Clocks in
    let who = c.args.who in
    let reading = c.args.reading in
    let request = c.args.request.now in
    let before = c.args.self.now in
    let a = c.args.clocks.now in
    let m = c.give_tai.new.clocks in
    let b = c.act.new.clocks in
    let clock = kept.state a in
    let tai = tai_asked request (seen clock before) in
    let given = given_tai reading tai clock in
    let real_is : c.in_ok-real.real ≡ real_at reading clock =
    c.in_ok-real.ensures.1 ∙ ap (real_at reading) c.clock.ensures in
    let tai_now : c.tai_of-tai.result ≡ tai_of_clock clock =
    c.tai_of-tai.ensures ∙ ap tai_of_clock c.clock-2.ensures in
    let tai_is : c.asked_tai.result ≡ tai =
    c.asked_tai.ensures ∙ ap (asked_tai request) tai_now in
    let moved : kept.state m ≡ given =
    c.give_tai.ensures.state ∙ ap (λ t. given_tai reading t clock) tai_is in
    let told = c.in_ok-give_tai.ensures.answer in
    record {
      answer = (
        no_refusal (real_refusal reading clock) (tai_refusal reading tai clock)
            (subst (λ (k : State). real_refusal reading k ≡ None) c.clock.ensures
            c.in_ok-real.ensures.0)
            (subst (λ t. tai_refusal reading t clock ≡ None) tai_is told.0),
        c.act.ensures.reply
            ∙ ap (λ real. reply_to request real c.tai_of-tai.result before.steering.ntp) real_is
            ∙ ap (λ t. reply_to request (real_at reading clock) t before.steering.ntp) tai_now,
        c.act.ensures.seen
            ∙ ap (λ real. after_request reading request real (seen (kept.state m) before)) real_is
            ∙ ap (λ (k : State). after_request reading request (real_at reading clock) (seen k before))
            moved,
      );
      entries =
          g.met.C.Clocks.joins a m b (tai_entries who reading tai clock)
          (rate_entries_if (changes_rate request.modes) who reading
          (with_asked request (real_at reading clock)
          (accounted_if (acts request.modes) reading (seen given before))))
          (subst (λ t. kept.is_after a (tai_entries who reading t clock) m) tai_is told.1)
          (subst (λ l. kept.is_after m l b)
          (ap (λ (real : Timespec). rate_entries_if (changes_rate request.modes) who reading
          (with_asked request real
          (accounted_if (acts request.modes) reading (seen (kept.state m) before)))) real_is
          ∙ ap (λ (k : State). rate_entries_if (changes_rate request.modes) who reading
          (with_asked request (real_at reading clock)
          (accounted_if (acts request.modes) reading (seen k before)))) moved)
          c.act.ensures.entries);
    }

use Rattle.std.proofs.Common.{◌≡◌, ◌∙◌, ap, refl, subst, ℕ, Bool, true, false}
use Rattle.tk_clock.specs.State.{State}
use Rattle.tk_ntp.specs.Asked.{accounted_if, acts, changes_rate, steered_if, with_asked}
use Rattle.tk_ntp.specs.Course.{seen}
use Rattle.tk_ntp.specs.Entries.{rate_entries_if}
use Rattle.tk_ntp.specs.Reply.{reply_to}
use Rattle.tk_ntp.specs.SteeredClock.{SteeredClock}
use Rattle.tk_ntp.proofs.course.Course.act.Goals as goal

-- an account leaves the discipline
accounted_if-ntp : (test : Bool) (reading : ℕ) (steered : SteeredClock) →
    (accounted_if test reading steered).steering.ntp ≡ steered.steering.ntp
accounted_if-ntp true reading steered = refl
accounted_if-ntp false reading steered = refl

accounted : (g : _) (c : goal.After-steer_if g) →
    let here = seen (g.C.Clocks.state c.args.clocks.now) c.args.self.now in
    seen (g.C.Clocks.state c.args.clocks.now) c.account_if.new.self
    ≡ accounted_if c.acts.result c.args.reading here
accounted g c =
    subst (λ (k : State). seen k c.account_if.new.self
    ≡ accounted_if c.acts.result c.args.reading (seen k c.args.self.now))
    c.clock.ensures c.account_if.ensures

asked : (g : _) (c : goal.After-steer_if g) →
    let clock = g.C.Clocks.state c.args.clocks.now in
    seen clock c.ask_discipline-reply.new.self
    ≡ with_asked c.args.request.now c.args.real
    (accounted_if (acts c.args.request.now.modes) c.args.reading (seen clock c.args.self.now))
asked g c =
    let clock = g.C.Clocks.state c.args.clocks.now in
    c.ask_discipline-reply.ensures.state clock
    ∙ ap (with_asked c.args.request.now c.args.real)
    (accounted g c
    ∙ ap (λ test. accounted_if test c.args.reading (seen clock c.args.self.now)) c.acts.ensures)

pub returns-clause-seen : goal.returns-clause-seen
returns-clause-seen g c =
    let clock = g.C.Clocks.state c.args.clocks.now in
    c.steer_if.ensures.seen
    ∙ ap (λ test. steered_if test c.args.reading (seen clock c.ask_discipline-reply.new.self))
    c.changes_rate.ensures
    ∙ ap (steered_if (changes_rate c.args.request.now.modes) c.args.reading) (asked g c)

pub returns-clause-entries : goal.returns-clause-entries
returns-clause-entries g c =
    let clock = g.C.Clocks.state c.args.clocks.now in
    subst (λ l. g.C.Clocks.is_after c.args.clocks.now l c.steer_if.new.clocks)
    (ap (λ test. rate_entries_if test c.args.who c.args.reading
    (seen clock c.ask_discipline-reply.new.self)) c.changes_rate.ensures
    ∙ ap (rate_entries_if (changes_rate c.args.request.now.modes) c.args.who c.args.reading)
    (asked g c))
    c.steer_if.ensures.entries

pub returns-clause-reply : goal.returns-clause-reply
returns-clause-reply g c =
    let here = seen (g.C.Clocks.state c.args.clocks.now) c.args.self.now in
    c.ask_discipline-reply.ensures.reply
    ∙ ap (reply_to c.args.request.now c.args.real c.args.tai)
    (ap (λ (s : SteeredClock). s.steering.ntp) (accounted g c)
    ∙ accounted_if-ntp c.acts.result c.args.reading here)

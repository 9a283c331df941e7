use Rattle.std.proofs.Common.{◌≡◌, ◌∙◌, ap, subst, ℕ, Bool}
use Rattle.tk_clock.specs.State.{State}
use Rattle.tk_ntp.specs.Asked.{accounted_if, steered_if}
use Rattle.tk_ntp.specs.Course.{seen}
use Rattle.tk_ntp.specs.Entries.{rate_entries_if}
use Rattle.tk_ntp.specs.Pulsed.{has_frequency, with_accounted, with_pulsed}
use Rattle.tk_ntp.proofs.course.Course.take_pulse.Goals as goal

accounted : (g : _) (c : goal.After-steer_if g) →
    let here = seen (g.C.Clocks.state c.args.clocks.now) c.args.self.now in
    seen (g.C.Clocks.state c.args.clocks.now) c.account_if.new.self
    ≡ accounted_if c.is_some-has_frequency.result c.args.reading here
accounted g c =
    subst (λ (k : State). seen k c.account_if.new.self
    ≡ accounted_if c.is_some-has_frequency.result c.args.reading (seen k c.args.self.now))
    c.clock.ensures c.account_if.ensures

taken : (g : _) (c : goal.After-steer_if g) →
    let clock = g.C.Clocks.state c.args.clocks.now in
    seen clock c.pulse_discipline.new.self
    ≡ with_accounted c.args.reading c.args.pulse (seen clock c.args.self.now)
taken g c =
    let clock = g.C.Clocks.state c.args.clocks.now in
    c.pulse_discipline.ensures clock
    ∙ ap (with_pulsed c.args.pulse)
    (accounted g c
    ∙ ap (λ test. accounted_if test c.args.reading (seen clock c.args.self.now))
    c.is_some-has_frequency.ensures)

pub returns-clause-clocks : goal.returns-clause-clocks
returns-clause-clocks g c =
    let clock = g.C.Clocks.state c.args.clocks.now in
    c.steer_if.ensures.seen
    ∙ ap (λ test. steered_if test c.args.reading (seen clock c.pulse_discipline.new.self))
    c.is_some-has_frequency.ensures
    ∙ ap (steered_if (has_frequency c.args.pulse) c.args.reading) (taken g c)

pub returns-clause-entries : goal.returns-clause-entries
returns-clause-entries g c =
    let clock = g.C.Clocks.state c.args.clocks.now in
    subst (λ l. g.C.Clocks.is_after c.args.clocks.now l c.steer_if.new.clocks)
    (ap (λ test. rate_entries_if test c.args.who c.args.reading
    (seen clock c.pulse_discipline.new.self)) c.is_some-has_frequency.ensures
    ∙ ap (rate_entries_if (has_frequency c.args.pulse) c.args.who c.args.reading) (taken g c))
    c.steer_if.ensures.entries

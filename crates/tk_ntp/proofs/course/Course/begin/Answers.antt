use Rattle.std.proofs.Common.{◌≡◌, ◌∙◌, ap, subst, sym, List}
use Rattle.std.specs.Prelude.{◌<◌}
use Rattle.tk_clock.specs.declared.command.Entry.{Entry}
use Rattle.tk_clock.specs.State.{State}
use Rattle.tk_ntp.specs.declared.leap.Leap.{Leap}
use Rattle.tk_ntp.specs.Advance.{leapt, seconds_left}
use Rattle.tk_ntp.specs.Course.{seen}
use Rattle.tk_ntp.specs.Entries.{given_at, leap_entries, rate_entries, with_second}
use Rattle.tk_ntp.specs.Second.{leap_at}
use Rattle.tk_ntp.specs.SteeredClock.{SteeredClock, steered_at}
use Rattle.tk_ntp.proofs.Keeping.{fewer_left, second_made}
use Rattle.tk_ntp.proofs.course.Course.begin.Goals as goal

-- the state before
abbrev start : (g : _) → goal.After-steer g → SteeredClock
start g c = seen (g.C.Clocks.state c.args.clocks.now) c.args.self.now

-- the second has begun in the discipline
begun : (g : _) (c : goal.After-steer g) →
    seen (g.C.Clocks.state c.args.clocks.now) c.pass_second-leap.new.self
    ≡ with_second c.args.is_late c.args.reading c.args.at (start g c)
begun g c =
    subst (λ (k : State). seen k c.pass_second-leap.new.self
    ≡ with_second c.args.is_late c.args.reading c.args.at (seen k c.args.self.now))
    c.clock.ensures c.pass_second-leap.ensures.seen

-- the clocks after the leap
led : (g : _) (c : goal.After-steer g) →
    let given = given_at c.args.is_late c.args.reading c.args.at in
    let leap = leap_at c.args.self.now.steering.ntp c.args.self.now.next in
    seen (g.C.Clocks.state c.leap.new.clocks) c.leap.new.self
    ≡ leapt given leap (with_second c.args.is_late c.args.reading c.args.at (start g c))
led g c =
    let given = given_at c.args.is_late c.args.reading c.args.at in
    let leap = leap_at c.args.self.now.steering.ntp c.args.self.now.next in
    let here = seen (g.C.Clocks.state c.args.clocks.now) c.pass_second-leap.new.self in
    c.leap.ensures.seen
    ∙ ap (λ at. leapt at c.pass_second-leap.result here) c.given_at-given.ensures
    ∙ ap (λ (l : Leap). leapt given l here) c.pass_second-leap.ensures.leap
    ∙ ap (leapt given leap) (begun g c)

pub returns-clause-seen : goal.returns-clause-seen
returns-clause-seen g c =
    let given = given_at c.args.is_late c.args.reading c.args.at in
    c.steer.ensures.seen
    ∙ ap (λ at. steered_at at (seen (g.C.Clocks.state c.leap.new.clocks) c.leap.new.self))
    c.given_at-given.ensures
    ∙ ap (steered_at given) (led g c)
    ∙ second_made c.args.is_late c.args.reading c.args.at (start g c)

pub returns-clause-entries : goal.returns-clause-entries
returns-clause-entries g c =
    let kept = g.C.Clocks in
    let who = c.args.who in
    let given = given_at c.args.is_late c.args.reading c.args.at in
    let leap = leap_at c.args.self.now.steering.ntp c.args.self.now.next in
    let here = c.args.clocks.now in
    let middle = c.leap.new.clocks in
    let end = c.steer.new.clocks in
    let at_once = seen (kept.state here) c.pass_second-leap.new.self in
    let with = with_second c.args.is_late c.args.reading c.args.at (start g c) in
    let leaps : leap_entries who c.given_at-given.result c.pass_second-leap.result at_once
    ≡ leap_entries who given leap with =
    ap (λ at. leap_entries who at c.pass_second-leap.result at_once) c.given_at-given.ensures
    ∙ ap (λ (l : Leap). leap_entries who given l at_once) c.pass_second-leap.ensures.leap
    ∙ ap (leap_entries who given leap) (begun g c) in
    let rates : rate_entries who c.given_at-given.result (seen (kept.state middle) c.leap.new.self)
    ≡ rate_entries who given (leapt given leap with) =
    ap (λ at. rate_entries who at (seen (kept.state middle) c.leap.new.self))
    c.given_at-given.ensures
    ∙ ap (rate_entries who given) (led g c) in
    g.met.C.Clocks.joins here middle end (leap_entries who given leap with)
    (rate_entries who given (leapt given leap with))
    (subst (λ (l : List Entry). kept.is_after here l middle) leaps c.leap.ensures.entries)
    (subst (λ (l : List Entry). kept.is_after middle l end) rates c.steer.ensures.entries)

pub returns-clause-fewer : goal.returns-clause-fewer
returns-clause-fewer g c =
    subst (λ (s : SteeredClock). seconds_left s < seconds_left (start g c))
    (sym (returns-clause-seen g c))
    (fewer_left c.args.is_late c.args.reading c.args.at (start g c) c.requires.early)

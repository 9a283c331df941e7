use Rattle.std.proofs.Common.{◌≡◌, ◌∙◌, ap, subst}
use Rattle.std.proofs.lemmas.Result.{err_from_is_err_and}
use Rattle.tk_clock.specs.State.{State}
use Rattle.tk_ntp.specs.Advance.{IsDue, IsNoneDue}
use Rattle.tk_ntp.specs.Course.{seen}
use Rattle.tk_ntp.specs.Entries.{second_begun, second_entries}
use Rattle.tk_ntp.specs.Keeping.{Begins, Still}
use Rattle.tk_ntp.proofs.course.Course.begin_seconds.Goals as goal

pub returns-in_err-ready : goal.returns-in_err-ready
returns-in_err-ready g c =
    let p = err_from_is_err_and c.from_residual.result c.from_residual.ensures.1 in
    let here = c.seconds.clocks in
    let course = c.seconds.self in
    let told = c.in_err-ready.ensures in
    rw (p.1, p.2) (record {
      last = here;
      begun = c.seconds.invariant here course (Still here course);
      due = (
        c.in-Some.at,
        subst (λ (k : State). IsDue (seen k course) c.args.reading c.in-Some.at) c.clock.ensures
            c.in-Some.ensures.answer,
      );
      unready = record { same = told.state; kept = told.kept; short = told.answer };
    })

pub seconds-preserved : goal.seconds-preserved
seconds-preserved g c = λ last after h.
    let kept = g.C.Clocks in
    let here = c.seconds.clocks in
    let course = c.seconds.self in
    let at = c.in-Some.at in
    let ready = c.ready.new.self in
    let same : seen (kept.state ready) course ≡ seen (kept.state here) course =
    ap (λ (k : State). seen k course) c.ready.ensures.state in
    c.seconds.invariant last after
    (Begins here ready c.begin.new.clocks last course c.begin.new.self after at
    (subst (λ (k : State). IsDue (seen k course) c.args.reading at) c.clock.ensures
    c.in-Some.ensures.answer)
    (record { same = c.ready.ensures.state; kept = c.ready.ensures.kept; room = c.in_ok-ready.ensures.answer })
    (c.begin.ensures.seen ∙ ap (second_begun c.args.is_late c.args.reading at) same)
    (subst (λ l. kept.is_after ready l c.begin.new.clocks)
    (ap (second_entries c.args.is_late c.args.who c.args.reading at) same)
    c.begin.ensures.entries)
    h)

pub returns : goal.returns
returns g c = record {
  begun = c.seconds.invariant c.seconds.clocks c.seconds.self (Still c.seconds.clocks c.seconds.self);
  none =
      subst (λ (k : State). IsNoneDue (seen k c.seconds.self) c.args.reading) c.clock.ensures
      c.in_default.ensures.answer;
}

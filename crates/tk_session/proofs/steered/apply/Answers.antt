use Rattle.std.proofs.Common.{◌≡◌, ◌∙◌, ap, refl, subst, sym, ℕ, List}
use Rattle.std.specs.Prelude.{◌≢◌, Result, Ok, Err}
use Rattle.tk_clock.specs.declared.clock_id.ClockId.TheVariants.{Monotonic}
use Rattle.tk_clock.specs.declared.refusal.Refusal.{Refusal}
use Rattle.tk_clock.specs.declared.refusal.Refusal.TheVariants.{Memory}
use Rattle.tk_keeper.specs.Read.{read_fault}
use Rattle.tk_report.specs.SteeredReport.{IsAcceptedLine, journal_in}
use Rattle.tk_session.proofs.SteeredCalls.{applied}
use Rattle.tk_session.proofs.steered.apply.Goals as goal

pub returns-in-Ok : goal.returns-in-Ok
returns-in-Ok c = λ before kept.
    let reading = c.args.reading in
    let clocks = c.apply.new.clocks in
    let called = applied reading before c.args.cmd c.args.clocks.now c.args.course.now (Ok (tt {0}))
    clocks c.apply.new.self kept c.in-Ok.ensures in
    let journal = journal_in called.next in
    let done : Result ℕ Refusal = Ok clocks.count in
    let line : IsAcceptedLine journal reading clocks.count (read_fault journal Monotonic reading)
    c.accepted.result = c.accepted.ensures journal called.kept.counts in (
      called.next,
      (
        done,
        (λ e. cc e),
        called.made,
        subst (λ (l : List ℕ). IsAcceptedLine journal reading
            clocks.count (read_fault journal Monotonic reading) l) (sym c.of.ensures.text) line,
      ),
      refl,
      called.kept,
    )

pub returns-in-Err : goal.returns-in-Err
returns-in-Err c = λ before kept.
    let refusal = c.in-Err.refusal in
    let called = applied c.args.reading before c.args.cmd c.args.clocks.now c.args.course.now
    (Err refusal) c.apply.new.clocks c.apply.new.self kept c.in-Err.ensures in
    let refused : Result ℕ Refusal = Err refusal in
    let never : refused ≢ Err Memory = λ e.
    let same : refusal ≡ Memory = cc e in called.never (ap Err same) in (
      called.next,
      (refused, never, called.made, c.of-in-Err.ensures.text ∙ c.no.ensures),
      refl,
      called.kept,
    )

use Rattle.std.proofs.Common.{◌≡◌, ◌∙◌, refl}
use Rattle.std.specs.Prelude.{None}
use Rattle.tk_clock.specs.Snapshot.{snapshot_of}
use Rattle.tk_report.specs.SteeredReport.{journal_in}
use Rattle.tk_report.proofs.KeptClocks.{snapshot-kept}
use Rattle.tk_session.proofs.SteeredCalls.{advanced}
use Rattle.tk_session.proofs.steered.tell.Goals as goal

pub returns-in-Act-clause-told : goal.returns-in-Act-clause-told
returns-in-Act-clause-told c = rw c.in-Act.is c.apply.ensures

pub returns-in-Ask-clause-told : goal.returns-in-Ask-clause-told
returns-in-Ask-clause-told c = rw c.in-Ask.is c.answer.ensures

pub returns-in-Look-clause-told : goal.returns-in-Look-clause-told
returns-in-Look-clause-told c = λ before kept.
    let reading = c.in-Look.reading in
    let begun = c.advance-begun in
    let called = advanced reading before c.args.clocks.now c.args.course.now begun.result
    begun.new.clocks begun.new.self kept begun.ensures in
    let now : c.snapshot.result ≡ snapshot_of (journal_in called.next) =
    c.snapshot.ensures
    ∙ snapshot-kept None begun.new.clocks (journal_in called.next) called.kept.counts in
    let looked = c.look.ensures.looked (journal_in called.next) now in
    rw c.in-Look.is (
      called.next,
      ((begun.result, called.never, called.made), looked.0),
      looked.1,
      called.kept,
    )

pub returns-in-Change-clause-told : goal.returns-in-Change-clause-told
returns-in-Change-clause-told c = λ before kept.
    rw c.in-Change.is (before, (c.of.ensures.text ∙ c.no.ensures, refl), refl, kept)

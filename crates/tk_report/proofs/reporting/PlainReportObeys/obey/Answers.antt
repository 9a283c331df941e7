use Rattle.std.proofs.Common.{refl, arith, subst}
use Rattle.std.proofs.lemmas.Result.{on_ok_weaker}
use Rattle.std.specs.Prelude.{ℕ, Option}
use Rattle.tk_report.specs.Lines.{IsNoted}
use Rattle.tk_report.proofs.Noted.{noted-after}
use Rattle.tk_report.proofs.reporting.PlainReportObeys.obey.Goals as goal

pub add_line-requires : goal.add_line-requires
add_line-requires g c = omega (arith, c.requires.1.few)

pub note-requires : goal.note-requires
note-requires g c =
    let room = c.requires.1.lines in record {
      records = omega (arith, room.records);
      differences = room.differences;
    }

pub returns-clause-done : goal.returns-clause-done
returns-clause-done g c =
    let before = c.args.self.now.lines in
    let next = c.note.new.self in
    on_ok_weaker c.note.result (λ noted keep journal kept.
    let added = c.in_ok-missed.ensures.ok keep journal kept in
    let line = added.0.0 in (
      (
        line,
        added.0.1,
        subst (λ (value : Option ℕ). IsNoted before line value next) added.2
            (noted-after before _ next line c.in_ok-missed.missed added.0.2 refl refl noted),
      ),
      added.1,
    )) c.note.ensures.noted

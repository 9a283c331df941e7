use Rattle.std.proofs.Common.{refl, arith, subst}
use Rattle.std.proofs.lemmas.Result.{on_ok_weaker}
use Rattle.std.specs.Prelude.{ℕ, Option}
use Rattle.tk_report.specs.Lines.{IsNoted}
use Rattle.tk_report.proofs.Noted.{noted-after}
use Rattle.tk_report.proofs.steered_reporting.SteeredReportObeys.obey.Goals as goal

pub note-requires : goal.note-requires
note-requires g c =
    let room = c.requires.1 in record {
      records = omega (arith, room.records);
      differences = room.differences;
    }

pub returns-clause-done : goal.returns-clause-done
returns-clause-done g c =
    let before = c.args.self.now.lines in
    let next = c.note.new.self in
    let added = c.in_ok-missed.ensures in
    let line = added.line.0 in
    on_ok_weaker c.note.result (λ noted. (
      line,
      added.line.1,
      subst (λ (value : Option ℕ). IsNoted before line value next) added.missed
          (noted-after before _ next line c.in_ok-missed.missed added.line.2 refl refl noted),
    )) c.note.ensures.noted

use Rattle.std.proofs.Common.{◌≡◌, Ok, [], rules, subst}
use Rattle.std.proofs.lemmas.Result.{err_from_is_err_and}
use Rattle.tk_script.specs.Coming.{coming, records_left}
use Rattle.tk_report.proofs.Lines.{Fails-from}
use Rattle.tk_report.proofs.Rows.{IsRun-start, IsRun-next, IsRun-end}
use Rattle.tk_report.proofs.obeying.obey_all.Goals as goal

pub rows-init : goal.rows-init
rows-init g c = record {
  ready = c.requires.ready;
  run = IsRun-start g.O.Obeys.does c.args.obeying.now (coming c.args.rows.now);
  room = c.requires.room;
}

pub returns-in_err-row : goal.returns-in_err-row
returns-in_err-row g c =
    let exit = err_from_is_err_and c.from_residual.result c.from_residual.ensures.1 in
    rw (exit.1, exit.2)
    (Fails-from (coming c.rows.rows) (coming c.args.rows.now) c.in_err-row.field-0.0
    c.rows.invariant.run.fails c.in_err-row.ensures)

pub obey-requires : goal.obey-requires
obey-requires g c =
    let step = rw c.in-Some.is at c.in_ok-row.ensures in (
      records_left c.next_row.new.self,
      subst (λ n. g.O.Obeys.has_room n c.rows.obeying) step.1 c.rows.invariant.room,
    )

pub rows-preserved : goal.rows-preserved
rows-preserved g c =
    let before = c.rows.obeying in
    let after = c.obey.new.self in
    let done = c.in_ok-obey.ensures.done in
    let step = rw c.in-Some.is at c.in_ok-row.ensures in
    let left = records_left c.next_row.new.self in
    record {
      ready = step.0;
      run = IsRun-next g.O.Obeys.does c.args.obeying.now (coming c.args.rows.now) before after
          c.in-Some.row (coming c.rows.rows) (coming c.next_row.new.self) c.rows.invariant.run
          step.2 done;
      room = g.met.O.Obeys.leaves left before after c.in-Some.row done
          (subst (λ n. g.O.Obeys.has_room n before) step.1 c.rows.invariant.room);
    }

pub returns : goal.returns
returns g c =
    let none : coming c.rows.rows ≡ Ok [] = search rules in
    IsRun-end g.O.Obeys.does c.args.obeying.now (coming c.args.rows.now) c.rows.obeying
    (coming c.rows.rows) c.rows.invariant.run none

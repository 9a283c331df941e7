use Rattle.tk_script.specs.Coming.{IsReady, coming, records_left}
use Rattle.tk_report.proofs.Rows.{IsRun}
use Rattle.tk_report.proofs.obeying.obey_all.Given as goal

-- the remaining rows lead to what is there after all rows, and there is room for them
abbrev pub invariant-rows : goal.invariant-rows
invariant-rows g l = record {
  ready : IsReady l.rows;
  run : IsRun g.O.Obeys.does l.initial.obeying (coming l.fn.rows) l.obeying (coming l.rows);
  room : g.O.Obeys.has_room (records_left l.rows) l.obeying;
}

abbrev pub decreases-rows : goal.decreases-rows
decreases-rows g l = records_left l.rows

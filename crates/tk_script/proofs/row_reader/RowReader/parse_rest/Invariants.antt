use Rattle.tk_script.specs.Coming.{IsReady, coming, records_left}
use Rattle.tk_script.proofs.ComingLemmas.{Continues}
use Rattle.tk_script.proofs.row_reader.RowReader.parse_rest.Given as goal

-- the remaining rows have the fault of all rows
abbrev pub invariant-rows : goal.invariant-rows
invariant-rows l = IsReady l.self × Continues (coming l.fn.self) (coming l.self)

abbrev pub decreases-rows : goal.decreases-rows
decreases-rows l = records_left l.self

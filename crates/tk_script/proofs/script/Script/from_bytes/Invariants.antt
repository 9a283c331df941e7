use Rattle.std.proofs.Common.{◌≡◌}
use Rattle.tk_script.specs.Coming.{IsReady, coming, opened_with, records_left}
use Rattle.tk_script.specs.Grammar.{parse_of}
use Rattle.tk_script.proofs.ComingLemmas.{rows_and}
use Rattle.tk_script.proofs.script.Script.from_bytes.Given as goal

-- the rows so far, followed by the rows that are still to be read, are the script's
abbrev pub invariant-rows : goal.invariant-rows
invariant-rows l =
    IsReady l.reader
    × (parse_of l.fn.bytes ≡ opened_with l.start (rows_and l.rows.items (coming l.reader)))

abbrev pub decreases-rows : goal.decreases-rows
decreases-rows l = records_left l.reader

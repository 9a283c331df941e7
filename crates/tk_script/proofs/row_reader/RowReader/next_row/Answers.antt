use Rattle.std.proofs.Common.{◌+◌, refl}
use Rattle.tk_script.specs.declared.row_reader.RowReader.{RowReader}
use Rattle.tk_script.proofs.ComingLemmas.{coming-row, left-known, left-row, ready-row}
use Rattle.tk_script.proofs.row_reader.RowReader.next_row.Goals as goal

pub returns-in-Some : goal.returns-in-Some
returns-in-Some c =
    let old = c.args.self.now in
    let left = left-known old c.requires in
    let took = c.in-Some.ensures.some in
    let next = took.1 left.0 left.1 in
    let takes = next.1 in
    let new : RowReader = record { records = c.take.new.self; row = old.row + 1 } in
    let one = left-row old new left.0 takes.0 next.0 left.1 takes.1 takes.2 in (
      ready-row old new takes.0 c.requires one took.0 takes.2 refl,
      one,
      coming-row old new left.0 takes.0 next.0 c.in-Some.row left.1 takes.1 (next.2 old.row) takes.2
          refl,
    )

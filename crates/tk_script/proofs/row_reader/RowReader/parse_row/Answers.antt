use Rattle.std.proofs.Common.{◌∙◌, ◌+◌, Err, sym, ap, refl}
use Rattle.std.proofs.lemmas.Result.{err_from_is_err_and}
use Rattle.tk_script.specs.Coming.{coming}
use Rattle.tk_script.specs.Cursor.{fields_of}
use Rattle.tk_script.specs.declared.row_reader.RowReader.{RowReader}
use Rattle.tk_script.proofs.ComingLemmas.{coming-fault, coming-none, coming-row, left-known, left-row, ready-row}
use Rattle.tk_script.proofs.GrammarLemmas.{fails-from}
use Rattle.tk_script.proofs.row_reader.RowReader.parse_row.Goals as goal

pub returns-then-not-branch : goal.returns-then-not-branch
returns-then-not-branch c =
    let left = left-known c.args.self.now c.requires in
    let none = rw c.if-not-branch.true at (c.in_ok-advance.ensures.takes left.0 left.1) in
    coming-none c.args.self.now left.0 left.1 none

pub returns-in_err-row : goal.returns-in_err-row
returns-in_err-row c =
    let left = left-known c.args.self.now c.requires in
    let some = rw c.if-not-branch.false at (c.in_ok-advance.ensures.takes left.0 left.1) in
    let fault = coming-fault c.args.self.now left.0 some.0 (fields_of c.advance.new.self)
    c.in_err-row.field-0.0 left.1 some.1 (sym c.read_row.ensures ∙ c.in_err-row.was) in
    let exit = err_from_is_err_and c.from_residual-in_err-row.result
    c.from_residual-in_err-row.ensures.1 in
    rw exit.1 (fails-from exit.0 (coming c.args.self.now) (fault ∙ ap Err (sym exit.2)))

pub returns : goal.returns
returns c =
    let old = c.args.self.now in
    let left = left-known old c.requires in
    let some = rw c.if-not-branch.false at (c.in_ok-advance.ensures.takes left.0 left.1) in
    let new : RowReader = record { records = c.advance.new.self; row = old.row + 1 } in
    let first = fields_of c.advance.new.self in
    let one = left-row old new left.0 some.0 first left.1 some.1 some.2 in (
      ready-row old new some.0 c.requires one
          (c.in_ok-advance.ensures.reading c.if-not-branch.false) some.2 refl,
      one,
      coming-row old new left.0 some.0 first c.in_ok-row.row left.1 some.1 (sym c.read_row.ensures
          ∙ c.in_ok-row.was) some.2 refl,
    )

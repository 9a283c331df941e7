use Rattle.std.proofs.Common.{◌∙◌, Err, sym, ap, refl}
use Rattle.std.proofs.lemmas.Result.{err_from_is_err_and}
use Rattle.tk_script.specs.Cursor.{fields_of}
use Rattle.tk_script.specs.Grammar.{parse_of}
use Rattle.tk_script.specs.Records.{records_of}
use Rattle.tk_script.specs.declared.row_reader.RowReader.{RowReader}
use Rattle.tk_script.proofs.ComingLemmas.{parse-open, ready-open}
use Rattle.tk_script.proofs.GrammarLemmas.{parse-large, parse-small, parse-none, parse-start_fault, fails-from}
use Rattle.tk_script.proofs.row_reader.RowReader.begin.Goals as goal

pub returns-then-bytes-gt-SIZE_LIMIT-clause-gives : goal.returns-then-bytes-gt-SIZE_LIMIT-clause-gives
returns-then-bytes-gt-SIZE_LIMIT-clause-gives c =
    parse-large c.args.bytes.now c.if-bytes-gt-SIZE_LIMIT.true

pub returns-then-not-branch-clause-gives : goal.returns-then-not-branch-clause-gives
returns-then-not-branch-clause-gives c =
    let none = rw c.if-not-branch.true at
    (c.in_ok-advance.ensures.takes
    (records_of c.args.bytes.now) c.open-records.ensures.left) in
    parse-small c.args.bytes.now c.if-bytes-gt-SIZE_LIMIT.false
    ∙ parse-none (records_of c.args.bytes.now) none

pub returns-in_err-start-clause-gives : goal.returns-in_err-start-clause-gives
returns-in_err-start-clause-gives c =
    let some = rw c.if-not-branch.false at
    (c.in_ok-advance.ensures.takes
    (records_of c.args.bytes.now) c.open-records.ensures.left) in
    let fault = parse-small c.args.bytes.now c.if-bytes-gt-SIZE_LIMIT.false
    ∙ parse-start_fault (records_of c.args.bytes.now) some.0 (fields_of c.advance.new.self)
    c.in_err-start.field-0.0 some.1 (sym c.read_start.ensures.value ∙ c.in_err-start.was) in
    let exit = err_from_is_err_and c.from_residual-in_err-start.result
    c.from_residual-in_err-start.ensures.1 in
    rw exit.1 (fails-from exit.0 (parse_of c.args.bytes.now) (fault ∙ ap Err (sym exit.2)))

pub returns-clause-gives : goal.returns-clause-gives
returns-clause-gives c =
    let some = rw c.if-not-branch.false at
    (c.in_ok-advance.ensures.takes
    (records_of c.args.bytes.now) c.open-records.ensures.left) in
    let reader : RowReader =
    record { records = c.advance.new.self; row = 2 } in
    let first = fields_of c.advance.new.self in
    let small = c.if-bytes-gt-SIZE_LIMIT.false in (
      ready-open reader c.args.bytes.now first some.0
          (c.in_ok-advance.ensures.reading c.if-not-branch.false) some.2 refl some.1 small,
      parse-small c.args.bytes.now small
          ∙ parse-open reader c.in_ok-start.start (records_of c.args.bytes.now) some.0 first some.2
          refl some.1 (sym c.read_start.ensures.value ∙ c.in_ok-start.was),
    )

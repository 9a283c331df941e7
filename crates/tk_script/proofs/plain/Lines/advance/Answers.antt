use Rattle.std.proofs.Common.{refl}
use Rattle.csv.specs.declared.parser.State.TheVariants.{StartRecord}
use Rattle.tk_script.specs.Records.{records_after}
use Rattle.tk_script.proofs.PlainLemmas.{record_of_line}
use Rattle.tk_script.proofs.RecordLemmas.{records_after-none, records_after-some}
use Rattle.tk_script.proofs.plain.Lines.advance.Goals as goal

pub returns-in_default-clause-takes : goal.returns-in_default-clause-takes
returns-in_default-clause-takes c =
    records_after-none StartRecord c.args.self.now.rest.now c.in_default.ensures.record

pub returns-clause-takes : goal.returns-clause-takes
returns-clause-takes c = (
  records_after StartRecord c.in-Some.rest.now,
  records_after-some StartRecord c.args.self.now.rest.now
      (record_of_line c.in-Some.line.now c.in-Some.rest.now) c.in-Some.ensures.record,
  refl,
)

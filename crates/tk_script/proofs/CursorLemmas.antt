-- The records that a step over a plain text takes.
use Rattle.std.proofs.Common.{◌≡◌, ℕ, List, Option, None, Some, Result, refl}
use Rattle.std.specs.Option.{IfSome}
use Rattle.csv.specs.declared.parser.State.TheVariants.{StartRecord}
use Rattle.tk_script.specs.Cursor.{TakesGiving}
use Rattle.tk_script.specs.Plain.{FirstLineGives, IsPlain, cut_at_commas}
use Rattle.tk_script.specs.Records.{records_after}
use Rattle.tk_script.specs.declared.plain.Lines.{Lines}
use Rattle.tk_script.specs.declared.records.Records.TheVariants.{Plain}
use Rattle.tk_script.specs.declared.script_error.ScriptError.{ScriptError}
use Rattle.tk_script.proofs.PlainLemmas.{first-record, record_of_line}
use Rattle.tk_script.proofs.RecordLemmas.{records_after-some}

-- the first line of the text gives the same value as the first record
pub takes-first : {A : Type 0} (parse : ℕ → List (List ℕ) → Result A ScriptError) (found : Option A)
    (old new : Lines)
    → IsPlain old.rest.now
    → IfSome found (λ item. FirstLineGives parse old.rest.now item new.rest.now)
    → IfSome found (λ item. TakesGiving parse item (Plain old) (Plain new))
takes-first parse None old new plain first = tt
takes-first parse (Some item) old new plain (line, first, parsed) =
    let read = first-record old.rest.now line new.rest.now plain first in
    let split = records_after-some StartRecord old.rest.now (record_of_line line new.rest.now)
    read.0 in (
      read.1,
      λ records e.
          let same : records ≡ records_after StartRecord old.rest.now = cc e in
          (cut_at_commas line, (records_after StartRecord new.rest.now, rw same split, refl), parsed),
    )

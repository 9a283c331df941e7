-- How the reports of many scripts end.
use Rattle.std.specs.Prelude.{◌≡◌, ◌≢◌, ℕ, List, Option, Ok, Err, Bool, false, is_ok, ◌==◌, if◌then◌else◌, ◌⊎◌}
use Rattle.std.specs.Borrow.{Bor}
use Rattle.std.specs.Global.{Vec}
use Rattle.std.specs.List.{list_all}
use Rattle.std.specs.Io.KnownBytes.{Appends}
use Rattle.tk_report.specs.declared.fault.Fault.{Fault}
use Rattle.tk_report.specs.declared.fault.Fault.TheVariants as faults
use Rattle.tk_replay.specs.declared.many_error.ManyError.{ManyError}
use Rattle.tk_replay.specs.declared.many_error.ManyError.TheVariants as manys
use Rattle.tk_replay.specs.Many.{AreOutcomes, Outcome}
use Rattle.tk_report.specs.Writing.{IsFlushed, IsWrittenUpTo, WriteFailed}
use Rattle.tk_program.specs.declared.ending.Ending.{Ending}
use Rattle.tk_program.specs.declared.ending.Ending.TheVariants as endings
use Rattle.tk_program.specs.Files.{AreReadFrom, StopsFiles}
use Rattle.tk_program.specs.ManyText.{text_from}

-- whether an outcome is a report in which all reads give the values that they expect
abbrev pub is_agreeing : Outcome → Bool
is_agreeing (Ok report) = report.differences == 0
is_agreeing (Err error) = false

-- the ending when all outcomes of scripts are written: done, or one of them has a difference, or a
-- fault, which decides
abbrev pub ending_of_outcomes : List Outcome → Ending
ending_of_outcomes outcomes =
    if list_all is_agreeing outcomes then endings.Done
    else if list_all is_ok outcomes then endings.Differs
    else endings.Faulty

-- the bytes of a writer, if they are known, and the results of its calls, both before and after
module _ {W : Type 0} (contents : W → Option (List ℕ))
    (write_gives : W → List ℕ → Option ℕ → W → Type 0) (flush_gives : W → Bool → W → Type 0)
    (writer writer' : W) where
  -- a text was written to the end and flushed, and that is this ending; or the last write or the
  -- flush failed, after `written` bytes of it were written
  abbrev pub EndsWriting : List ℕ → Ending → Ending → Type 0
  EndsWriting text done ending =
      ((ending ≡ done) × Appends (contents writer) (contents writer') text
      × IsFlushed flush_gives writer')
      ⊎ ((written : ℕ) × (ending ≡ endings.Fault (faults.Write written))
      × IsWrittenUpTo (contents writer) (contents writer') text written
      × WriteFailed write_gives flush_gives writer')

  -- an allocation failed, and nothing is written; or the outcomes of scripts were written
  abbrev pub EndsTelling : List Outcome → Ending → Type 0
  EndsTelling outcomes ending =
      ((ending ≡ endings.Fault faults.Memory) × (writer' ≡ writer))
      ⊎ EndsWriting (text_from 0 outcomes) (ending_of_outcomes outcomes) ending

  -- the scripts of these texts were replayed: an allocation failed or a thread was not started, and
  -- nothing is written; or the outcomes were written. The number of workers is always in range
  abbrev pub EndsReplays : List (Vec ℕ) → Ending → Type 0
  EndsReplays texts ending =
      ((error : ManyError) × (ending ≡ endings.Many error) × (error ≢ manys.Count)
      × (writer' ≡ writer))
      ⊎ ((outcomes : List Outcome) × AreOutcomes texts outcomes
      × EndsTelling outcomes ending)

  -- the files of these names were read and replayed; or one couldn't be read, and nothing is written
  abbrev pub EndsMany : {D F : Type 0} → (D → List ℕ → Option F → Type 0) →
      (F → Option (List ℕ)) → (F → Option ℕ → F → Type 0) →
      D → List (Bor (List ℕ)) → Ending → Type 0
  EndsMany open_gives remaining read_gives folder names ending =
      ((fault : Fault) × (ending ≡ endings.Fault fault)
      × StopsFiles open_gives remaining read_gives folder names fault × (writer' ≡ writer))
      ⊎ ((texts : List (Vec ℕ)) × AreReadFrom open_gives remaining read_gives folder names texts
      × EndsReplays texts ending)

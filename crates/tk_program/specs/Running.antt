-- The effect of the program, by its arguments.
use Rattle.std.specs.Prelude.{◌≡◌, ◌⊎◌, ℕ, List, Option, Some, None, Bool, Result, Ok, Err, map}
use Rattle.std.specs.Borrow.{Bor}
use Rattle.std.specs.declared.io.ErrorKind.{ErrorKind}
use Rattle.clap.specs.Words.{Text}
use Rattle.tk_clock.specs.declared.clock_id.ClockId.{ClockId}
use Rattle.tk_report.specs.declared.fault.Fault.{Fault}
use Rattle.tk_report.specs.declared.fault.Fault.TheVariants as faults
use Rattle.tk_report.specs.Folding.{rule_of}
use Rattle.tk_report.specs.Reading.{ReadFailed}
use Rattle.tk_report.specs.Replay.{IsReplayed}
use Rattle.tk_report.specs.Reports.{IsReportBy}
use Rattle.tk_replay.specs.Trace.{EitherFailed, IsTraceDone}
use Rattle.tk_program.specs.declared.ending.Ending.{Ending}
use Rattle.tk_program.specs.declared.ending.Ending.TheVariants as endings
use Rattle.tk_command_line.specs.CommandLine.{asked_by}
use Rattle.tk_command_line.specs.Request.{Task, Replay, Trace, Many, Race}
use Rattle.tk_command_line.specs.WordsError.{unread_of}
use Rattle.tk_program.specs.Ending.{ending_at, ending_of, ending_of_replay}
use Rattle.tk_program.specs.Many.{EndsMany}
use Rattle.tk_program.specs.Race.{EndsRace}

-- the report of a script with these bytes: a full journal refuses commands, or is folded to its
-- last `keep` entries
abbrev pub IsReportKeeping : Option ℕ → List ℕ → List ℕ → ℕ → Type 0
IsReportKeeping keep = IsReportBy (rule_of keep)

-- the bytes of a writer, if they are known, and the results of its calls, both before and after
module _ {W : Type 0} (contents : W → Option (List ℕ))
    (write_gives : W → List ℕ → Option ℕ → W → Type 0) (flush_gives : W → Bool → W → Type 0)
    (writer writer' : W) where
  -- a replay ended in this way; the reader is described as the writer
  abbrev pub EndsReplay : {R : Type 0} → (R → Option (List ℕ)) → (R → Option ℕ → R → Type 0) →
      R → R → Option ℕ → Ending → Type 0
  EndsReplay remaining read_gives reader reader' keep ending =
      (result : Result ℕ Fault) × (ending ≡ ending_of_replay result)
      × IsReplayed (IsReportKeeping keep) (remaining reader) (remaining reader')
      (ReadFailed read_gives reader') contents write_gives flush_gives writer writer' result

  -- a trace of two open files ended in this way and left them in their final state
  abbrev pub EndsTraceOf : {F : Type 0} → (F → Option (List ℕ)) → (F → Option ℕ → F → Type 0) →
      ClockId → F → F → F → F → Ending → Type 0
  EndsTraceOf remaining read_gives clock script script' stamps stamps' ending =
      (result : Result Unit Fault) × (ending ≡ ending_of result)
      × IsTraceDone clock (remaining script) (remaining script')
      (remaining stamps) (remaining stamps')
      (EitherFailed (remaining script) (remaining script') (ReadFailed read_gives script')
      (stamps' ≡ stamps) (ReadFailed read_gives stamps'))
      contents write_gives flush_gives writer writer' result

  -- a trace of the files with two names ended in this way: one of them can't be opened, and nothing
  -- is written; or both are open, and it ended as a trace of them does
  abbrev pub EndsTrace : {D F : Type 0} → (D → List ℕ → Option F → Type 0) →
      (F → Option (List ℕ)) → (F → Option ℕ → F → Type 0) →
      D → ClockId → List ℕ → List ℕ → Ending → Type 0
  EndsTrace {F = F} open_gives remaining read_gives folder clock script stamps ending =
      ((open_gives folder script None ⊎ open_gives folder stamps None)
      × (ending ≡ endings.Fault faults.Read) × (writer' ≡ writer))
      ⊎ ((first : F) × (first' : F) × (later : F) × (later' : F)
      × open_gives folder script (Some first) × open_gives folder stamps (Some later)
      × EndsTraceOf remaining read_gives clock first first' later later' ending)

-- of a writer, of a reader, and of a folder and its files: their bytes, if they are known, the
-- results of their calls, and each before and after
module _ {R W D F : Type 0} (remaining : R → Option (List ℕ)) (read_gives : R → Option ℕ → R → Type 0)
    (contents : W → Option (List ℕ)) (write_gives : W → List ℕ → Option ℕ → W → Type 0)
    (flush_gives : W → Bool → W → Type 0) (open_gives : D → List ℕ → Option F → Type 0)
    (file_remaining : F → Option (List ℕ)) (file_gives : F → Option ℕ → F → Type 0)
    (folder : D) (reader reader' : R) (writer writer' : W) where
  -- neither reader nor writer was touched
  abbrev pub IsUntouched : Type 0
  IsUntouched = (reader' ≡ reader) × (writer' ≡ writer)

  -- the request ended in this way; refused arguments touch nothing
  abbrev pub Ends : Option Task → Ending → Type 0
  Ends None ending = (ending ≡ endings.Words) × IsUntouched
  Ends (Some (Replay keep)) ending =
      EndsReplay contents write_gives flush_gives writer writer'
      remaining read_gives reader reader' keep ending
  Ends (Some (Trace clock script stamps)) ending = (reader' ≡ reader)
      × EndsTrace contents write_gives flush_gives writer writer'
      open_gives file_remaining file_gives folder clock script stamps ending
  Ends (Some (Many workers files)) ending = (reader' ≡ reader)
      × ((names : List (Bor Text)) × (map (λ name. name.now) names ≡ files)
      × EndsMany contents write_gives flush_gives writer writer'
      open_gives file_remaining file_gives folder names ending)
  Ends (Some (Race step files)) ending = (reader' ≡ reader)
      × ((names : List (Bor Text)) × (map (λ name. name.now) names ≡ files)
      × EndsRace contents write_gives flush_gives writer writer'
      open_gives file_remaining file_gives folder step names ending)

  -- the arguments ended in this way: as their request does, or an allocation failed before it was
  -- known
  abbrev pub IsRun : List Text → Ending → Type 0
  IsRun words ending =
      ((ending ≡ endings.Fault faults.Memory) × IsUntouched) ⊎ Ends (asked_by words) ending

  -- the process's arguments ended in this way; those that can't be read, by the kind of the error,
  -- touch nothing
  abbrev pub IsRunBy : Result (List Text) ErrorKind → Ending → Type 0
  IsRunBy (Ok words) ending = IsRun words ending
  IsRunBy (Err kind) ending = (ending ≡ ending_at (unread_of kind)) × IsUntouched

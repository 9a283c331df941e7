-- Reports of many scripts, made by several workers.
use Rattle.std.specs.Prelude.{◌≡◌, ℕ, ◌<◌, ◌⊎◌, List, Result, Ok, Err, get_or}
use Rattle.std.specs.List.{AllZip}
use Rattle.std.specs.Global.{Global, Vec}
use Rattle.tk_pieces.specs.Workers.{most_workers}
use Rattle.tk_script.specs.declared.script_error.ScriptError.{ScriptError}
use Rattle.tk_clock.specs.Refusal.{first_refusal}
use Rattle.tk_script.specs.Grammar.{Fails, parse_of}
use Rattle.tk_report.specs.Reports.{IsReportBy}
use Rattle.tk_report.specs.declared.checked_report.CheckedReport.{CheckedReport}

-- this number of workers is out of range
abbrev pub IsCountRefused : ℕ → Type 0
IsCountRefused workers = (workers ≡ 0) ⊎ (most_workers < workers)

-- the report of a script and the number of its differences, or the script's fault
abbrev pub Outcome : Type 0
Outcome = Result (CheckedReport Global) ScriptError

-- the outcome for a script: its report with the number of reads that do not give the value that
-- they expect, or its first fault; an allocation failure may replace either
abbrev pub IsOutcome : Vec ℕ → Outcome → Type 0
IsOutcome script (Ok report) =
    IsReportBy first_refusal script.items report.text.items report.differences
IsOutcome script (Err error) = Fails error (parse_of script.items)

-- there is one outcome for each script, in the order of the scripts
abbrev pub AreOutcomes : List (Vec ℕ) → List Outcome → Type 0
AreOutcomes scripts outcomes = AllZip IsOutcome scripts outcomes

-- the shared state of the workers: the number of scripts that were taken, and an outcome for each
-- script
pub record Shared : Type 0 where
  pub taken : ℕ
  pub outcomes : List Outcome

-- a script's index, and its outcome
pub record Done : Type 0 where
  pub piece : ℕ
  pub outcome : Outcome

-- this is an outcome of the script at this index
abbrev pub IsOutcomeAt : List (Vec ℕ) → ℕ → Outcome → Type 0
IsOutcomeAt scripts piece outcome =
    (script : Vec ℕ) × (script ≡ get_or scripts piece script) × IsOutcome script outcome

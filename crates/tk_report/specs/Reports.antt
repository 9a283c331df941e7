-- The report of a script, and the number of its reads that do not give the value that they expect.
use Rattle.std.specs.Prelude.{◌≡◌, ℕ, List, Result, Ok}
use Rattle.tk_clock.specs.Refusal.{clock_refusal, first_refusal}
use Rattle.tk_script.specs.declared.opening.Start.{Start}
use Rattle.tk_script.specs.declared.opening.Start.TheVariants.{Opened, Steered, Running, Continued}
use Rattle.tk_script.specs.declared.row.Row.{Row}
use Rattle.tk_script.specs.declared.script_error.ScriptError.{ScriptError}
use Rattle.tk_script.specs.Coming.{opened_with}
use Rattle.tk_script.specs.Grammar.{Parse, parse_of}
use Rattle.tk_script.specs.Start.{journal_at}
use Rattle.tk_report.specs.Report.{Rule, IsPlainReport, differences}
use Rattle.tk_report.specs.SteeredReport.{IsSteeredReport, continued_from, steered_from}

-- the report of a parsed script whose clocks nothing steers, and the number of its differences
abbrev pub IsPlainReportWith : Rule → Parse → List ℕ → ℕ → Type 0
IsPlainReportWith rule parse text found =
    IsPlainReport rule parse text
    × (found ≡ differences rule (journal_at parse.start) parse.rows)

-- the report of a parsed script that begins in this way, and the number of its differences: a full
-- journal of steered clocks refuses commands by either rule
abbrev pub IsReportFrom : Start → Rule → Parse → List ℕ → ℕ → Type 0
IsReportFrom (Opened opening) rule parse text found = IsPlainReportWith rule parse text found
IsReportFrom (Running clock front) rule parse text found = IsPlainReportWith rule parse text found
IsReportFrom (Steered opening hz) rule parse text found =
    IsSteeredReport (steered_from opening hz) parse.rows text found
IsReportFrom (Continued clock front) rule parse text found =
    IsSteeredReport (continued_from clock front) parse.rows text found

abbrev pub IsReportOf : Rule → Parse → List ℕ → ℕ → Type 0
IsReportOf rule parse text found = IsReportFrom parse.start rule parse text found

-- the report of an opening and of rows that were parsed without a fault
abbrev pub IsReportOfRows : Rule → Start → Result (List Row) ScriptError → List ℕ → ℕ → Type 0
IsReportOfRows rule start read text found =
    (parse : Parse) × (opened_with start read ≡ Ok parse) × IsReportOf rule parse text found

-- the report of a script with these bytes, by a rule
abbrev pub IsReportBy : Rule → List ℕ → List ℕ → ℕ → Type 0
IsReportBy rule bytes text found =
    (parse : Parse) × (parse_of bytes ≡ Ok parse) × IsReportOf rule parse text found

-- the report of a script with these bytes, if a full journal refuses every command except a change
-- of counter
abbrev pub IsReport : List ℕ → List ℕ → Type 0
IsReport bytes text = (found : ℕ) × IsReportBy first_refusal bytes text found

-- the report of a script with these bytes, if the journal of clocks that nothing steers lists every
-- command over its counter and is never full
abbrev pub IsReportUnlimited : List ℕ → List ℕ → Type 0
IsReportUnlimited bytes text = (found : ℕ) × IsReportBy clock_refusal bytes text found

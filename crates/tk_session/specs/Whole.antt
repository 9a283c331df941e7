-- The report of a whole script, and the lines of a session of its records.
use Rattle.std.specs.Prelude.{◌≡◌, ◌≤◌, ◌+◌, ℕ, List, ◌∷◌, ◌++◌, length, Err}
use Rattle.tk_clock.specs.Refusal.{first_refusal}
use Rattle.tk_report.specs.Reports.{IsReportBy}
use Rattle.tk_script.specs.declared.script_error.ScriptError.{ScriptError}
use Rattle.tk_script.specs.Grammar.{parse_of}
use Rattle.tk_script.specs.Records.{most_bytes}
use Rattle.tk_session.specs.declared.fault.Fault.TheVariants.{Script}
use Rattle.tk_session.specs.Run.{IsRun}
use Rattle.tk_session.specs.Session.{IsNoOpening, IsOpenedBy, IsRefused, Session}
use Rattle.tk_session.specs.Texts.{ArePlain, lines_of, text_of}

-- the lines of a session are the report of the script that consists of its records, and its number of
-- differences is the report's
abbrev pub LinesAreTheReport : Type 0
LinesAreTheReport =
    (byte : ℕ) (bytes made : List ℕ) (opened : Session) (lines : List (List ℕ)) (last text : List ℕ)
    (next : Session) →
    IsOpenedBy (byte ∷ bytes) made opened → IsRun opened (lines_of lines last) text next →
    length (text_of ((byte ∷ bytes) ∷ lines) last) ≤ most_bytes →
    IsReportBy first_refusal (text_of ((byte ∷ bytes) ∷ lines) last) (made ++ text)
    next.differences

-- if a session took the records before one, and refuses that one by its fault, the script has it
abbrev pub FaultIsTheScripts : Type 0
FaultIsTheScripts =
    (byte : ℕ) (bytes made : List ℕ) (opened : Session) (taken : List (List ℕ)) (text : List ℕ)
    (next : Session) (bad : List ℕ) (error : ScriptError) (later lines : List (List ℕ))
    (last : List ℕ) →
    IsOpenedBy (byte ∷ bytes) made opened → IsRun opened taken text next →
    IsRefused (next.records + 1) bad (Script error) → lines_of lines last ≡ taken ++ bad ∷ later →
    ArePlain lines last → length (text_of ((byte ∷ bytes) ∷ lines) last) ≤ most_bytes →
    parse_of (text_of ((byte ∷ bytes) ∷ lines) last) ≡ Err error

-- if no session begins with the first record of a script, by its fault, the script has it
abbrev pub OpeningFaultIsTheScripts : Type 0
OpeningFaultIsTheScripts =
    (byte : ℕ) (bytes : List ℕ) (error : ScriptError) (lines : List (List ℕ)) (last : List ℕ) →
    IsNoOpening (byte ∷ bytes) (Script error) → ArePlain lines last →
    length (text_of ((byte ∷ bytes) ∷ lines) last) ≤ most_bytes →
    parse_of (text_of ((byte ∷ bytes) ∷ lines) last) ≡ Err error

-- A whole session: the lines that it takes, one after the other, and their lines of the report.
use Rattle.std.specs.Prelude.{◌≡◌, ℕ, ◌+◌, List, [], ◌∷◌, ◌++◌, Option}
use Rattle.tk_report.specs.Report.{difference, differs_text}
use Rattle.tk_script.specs.Plain.{cut_at_commas}
use Rattle.tk_script.specs.declared.row.Row.{Row}
use Rattle.tk_session.specs.Session.{Clocks, IsTold, Session, Takes}

-- a session took these lines, one after the other, and these are their lines of the report
abbrev pub IsRun : Session → List (List ℕ) → List ℕ → Session → Type 0
IsRun before [] text next = (text ≡ []) × (next ≡ before)
IsRun before (line ∷ lines) text next =
    (first : List ℕ) × (rest : List ℕ) × (middle : Session)
    × Takes before line first middle × IsRun middle lines rest next
    × (text ≡ first ++ rest)

-- the records in lines without quotes: an empty line is no record
abbrev pub records_in : List (List ℕ) → List (List (List ℕ))
records_in [] = []
records_in ([] ∷ lines) = records_in lines
records_in ((byte ∷ bytes) ∷ lines) = cut_at_commas (byte ∷ bytes) ∷ records_in lines

-- the lines of rows, of which the first is the record `row`, and the number of those that do not give
-- an expected value
abbrev pub AreTold : Clocks → ℕ → List Row → List ℕ → ℕ → Type 0
AreTold clocks row [] text found = (text ≡ []) × (found ≡ 0)
AreTold clocks row (first ∷ rows) text found =
    (line : List ℕ) × (value : Option ℕ) × (rest : List ℕ) × (more : ℕ) × (later : Clocks)
    × IsTold clocks first line value later × AreTold later (row + 1) rows rest more
    × (text ≡ line ++ (differs_text row value ++ rest)) × (found ≡ difference value + more)

-- The text of many scripts' reports.
use Rattle.std.specs.Prelude.{ℕ, ◌+◌, List, [], ◌∷◌, ◌++◌, Ok, Err, codes, decimal}
use Rattle.tk_script.specs.declared.script_error.ScriptError.{ScriptError}
use Rattle.tk_script.specs.ScriptError.{script_text}
use Rattle.tk_replay.specs.Many.{Outcome}

-- the line above a script's report
abbrev pub heading : ℕ → List ℕ
heading index = codes "file," ++ decimal index ++ codes "\n"

-- the line of a script's fault
abbrev pub fault_line : ScriptError → List ℕ
fault_line error = codes "fault," ++ script_text error ++ codes "\n"

-- a script's report, or the line of its fault
abbrev pub outcome_text : Outcome → List ℕ
outcome_text (Ok report) = report.text.items
outcome_text (Err error) = fault_line error

-- the outcomes of scripts, each under its heading; the first one has this number
abbrev pub text_from : ℕ → List Outcome → List ℕ
text_from index [] = []
text_from index (outcome ∷ outcomes) =
    heading index ++ (outcome_text outcome ++ text_from (index + 1) outcomes)

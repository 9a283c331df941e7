-- What the rows of a script do, one after the other.
use Rattle.std.specs.Prelude.{◌≡◌, List, [], ◌∷◌, Result, Ok}
use Rattle.tk_script.specs.declared.row.Row.{Row}
use Rattle.tk_script.specs.declared.script_error.ScriptError.{ScriptError}

-- the values after all rows, each one made by the relation `Does` from the value before the row
abbrev pub IsAfterRows : {S : Type 0} → (S → Row → S → Type 0) → S → List Row → S → Type 0
IsAfterRows Does before [] after = after ≡ before
IsAfterRows {S = S} Does before (row ∷ rows) after =
    (middle : S) × Does before row middle × IsAfterRows Does middle rows after

-- the same for the rows of a reading without a fault
abbrev pub HasDone :
    {S : Type 0} → (S → Row → S → Type 0) → S → Result (List Row) ScriptError → S → Type 0
HasDone Does before read after =
    (rows : List Row) × (read ≡ Ok rows) × IsAfterRows Does before rows after
